-- Entries stored in a list one after the other. Assumes nothing.
use Prim.Native.Nat.{ℕ, ◌+◌, ◌-◌, ◌≤◌}
use mathlib.Core.Path.{◌≡◌, refl, sym, ap, ap₂, ◌∙◌}
use mathlib.Core.List.{List, [], ◌∷◌, ◌++◌, append-nil, append_assoc}
use native.Mathlib.Nat.{add-zero}
use native.Mathlib.Numerals.{add-one}
use native.Mathlib.Omega.{arith}
use lib.ListN.{length, length-append, length-drop, set, take, drop}
use lib.Seq.{sets, sets-eq, drop-length, drop-drop, take_all}
use borrow.Rule.Slice.PartMut.{mid_of, put_mid}
use Rattle.std.proofs.lemmas.List.{drop_all}
use Rattle.model.specs.Sums.{values}
use Rattle.model.proofs.ListLaws.{values_last, sets_append}
use Rattle.packed.specs.Storing.{Stored, Storing}

-- nothing is stored
pub stored_none : (list : List ℕ) (from : ℕ) → Stored [] list from list from
stored_none list from = record { stored = refl; ended = sym (add-zero from) }

-- more entries behind the last
pub stored_append : {l m list list' list'' : List ℕ} {end end' : ℕ} → Stored l list 0 list' end → Stored m list' end list'' end'
    → Stored (l ++ m) list 0 list'' end'
stored_append {l} {m} {list} s t =
    record {
      stored = t.stored ∙ ap₂ (λ k e. sets k e m) s.stored s.ended ∙ sets_append l m list 0;
      ended = omega (arith, t.ended, s.ended, length-append l m);
    }

-- one more value of a function
pub stored_value : (f : ℕ → ℕ) {i x : ℕ} {list list' : List ℕ} → Stored (values i f) list 0 list' i → x ≡ f i
    → Stored (values (i + 1) f) list 0 (set list' i x) (i + 1)
stored_value f {i} {x} s is =
    rw (add-one i, values_last i f, ← is)
    (stored_append s (record { stored = refl; ended = sym (add-one i) }))

-- what is stored at the front of the rest of a list, lent from entry `from` on, is stored in the list from there on
pub stored_rest : {l list part : List ℕ} {from end : ℕ} → from + length l ≤ length list
    → Stored l (mid_of from (length list - from) list) 0 part end
    → Stored l list from (put_mid from (length list - from) list part) (from + end)
stored_rest {l} {list} {part} {from} room s =
    let rest = drop from list in
    let left = length list - from in
    let all : take left rest ≡ rest = take_all left rest (omega (arith, length-drop from list)) in
    let none : drop left rest ≡ [] = drop_all left rest (omega (arith, length-drop from list)) in
    let from_there : from + (0 + length l) ≡ from + length l = omega arith in
    let front : part ≡ l ++ drop (from + length l) list =
    s.stored
    ∙ ap (λ t. sets t 0 l) all
    ∙ sets-eq l rest 0 (omega (arith, room, length-drop from list))
    ∙ ap (λ t. l ++ t) (drop-drop (0 + length l) from list ∙ ap (λ k. drop k list) from_there) in
    record {
      stored =
          ap₂ (λ p t. take from list ++ (p ++ t)) front none
          ∙ ap (λ t. take from list ++ t) (append-nil (l ++ drop (from + length l) list))
          ∙ sym (append_assoc (take from list) l (drop (from + length l) list))
          ∙ sym (sets-eq l list from room);
      ended = omega (arith, s.ended);
    }

-- the front of a list, whose rest stays
pub stored_front : {l list list' : List ℕ} {end : ℕ} → Stored l list 0 list' end → length l ≤ length list → list' ≡ l ++ drop (length l) list
stored_front {l} {list} s h =
    let front : 0 + length l ≡ length l = omega arith in
    s.stored ∙ sets-eq l list 0 (omega (arith, h)) ∙ ap (λ k. l ++ drop k list) front

-- all of a list
pub stored_all : {l list list' : List ℕ} {end : ℕ} → Stored l list 0 list' end → length l ≡ length list → list' ≡ l
stored_all {l} {list} s long =
    stored_front s (omega (arith, long)) ∙ ap (λ k. l ++ drop k list) long ∙ ap (λ t. l ++ t) (drop-length list) ∙ append-nil l

-- From what is left

pub storing_next : {x : ℕ} {left rest all list list' : List ℕ} {from at : ℕ} → left ≡ x ∷ rest → Storing left all list from list' at
    → Storing rest all list from (set list' at x) (at + 1)
storing_next {x} {left} {rest} {all} {list} {list'} {from} {at} is s =
    record {
      will_be = ap (λ i. sets (set list' at x) i rest) (add-one at) ∙ sym (ap (sets list' at) is) ∙ s.will_be;
      end = omega (arith, s.end, ap length is);
    }

pub storing_done : {left all list list' : List ℕ} {from at : ℕ} → left ≡ [] → Storing left all list from list' at → Stored all list from list' at
storing_done {left} {all} {list} {list'} {from} {at} none s =
    record { stored = sym (ap (sets list' at) none) ∙ s.will_be; ended = omega (arith, s.end, ap length none) }
