-- Bytes that are marked one after the other in rising order, and the list of the places marked. Assumes nothing.
use Prim.Native.Nat.{ℕ, zero, suc, ◌-◌, ◌≤◌, ◌<◌}
use mathlib.Core.Path.{◌≡◌, refl, sym, ap, ap₂, ◌∙◌}
use mathlib.Core.Logic.{◌≢◌}
use mathlib.Core.Bool.{Bool, true, false, cond}
use mathlib.Core.List.{List, [], ◌∷◌, ◌++◌, append-nil}
use native.Mathlib.Nat.{le_refl, sub-zero}
use native.Mathlib.Omega.{arith}
use borrow.Author.Tests.{eqb-true, eqb-false}
use lib.ListN.{length, get_or, set, take, replicate, length-set}
use lib.Seq.{get_or-set_same, get_or-set_other, take_all, take-suc, append_snoc, set_at, length-take-le}
use lib.Dec.{eqb}
use Rattle.model.specs.Sums.{Set, ones, members}
use Rattle.model.specs.Board.{ValidBytes}
use Rattle.model.proofs.SumLaws.{below_suc}
use Rattle.model.proofs.ListLaws.{zero_everywhere}

-- Members

pub members_cong : (n : ℕ) (D E : Set) → ((i : ℕ) → i < n → D i ≡ E i) → members n D ≡ members n E
unfolding members
members_cong zero D E same = refl
members_cong (suc n) D E same =
    ap₂ (λ l b. l ++ cond b (n ∷ []) []) (members_cong n D E (λ i h. same i (omega arith))) (same n (le_refl _))

pub members_none : (n : ℕ) (D : Set) → ((i : ℕ) → i < n → D i ≡ false) → members n D ≡ []
unfolding members
members_none zero D out = refl
members_none (suc n) D out = rw (members_none n D (λ i h. out i (omega arith)), out n (le_refl _))

-- a member past all others stands last
pub members_more : (n : ℕ) (D E : Set) (v : ℕ) → v < n → ((i : ℕ) → v ≤ i → i < n → D i ≡ false) → E v ≡ true
    → ((i : ℕ) → i ≢ v → E i ≡ D i) → members n E ≡ members n D ++ (v ∷ [])
unfolding members
members_more zero D E v h out p same = absurd (omega arith)
members_more (suc n) D E v h out p same =
    let last_out = out n (omega arith) (le_refl _) in
    below_suc n v h
    (λ l. rw (same n (λ q. omega arith), last_out, append-nil (members n E), append-nil (members n D))
    (members_more n D E v l (λ i a b. out i a (omega arith)) p same))
    (λ q. rw (members_cong n E D (λ i l. same i (λ r. omega arith)), sym (ap E q) ∙ p, last_out, append-nil (members n D), q))

-- Bytes

-- no byte from place k on is marked
pub record ClearFrom (k : ℕ) (l : List ℕ) : Type 0 where
  pub at : (i : ℕ) → k ≤ i → get_or l i 0 ≡ 0

pub clear_later : {k j : ℕ} {l : List ℕ} → k ≤ j → ClearFrom k l → ClearFrom j l
clear_later h c = record { at = λ i p. c.at i (omega arith) }

pub clear_none : {k : ℕ} {l : List ℕ} (i : ℕ) → k ≤ i → ClearFrom k l → ones l i ≡ false
clear_none i h c = rw (c.at i h)

pub clear_members : (n : ℕ) {l : List ℕ} → ClearFrom 0 l → members n (ones l) ≡ []
clear_members n {l} c = members_none n (ones l) (λ i h. clear_none i (omega arith) c)

pub clear_replicate : (n : ℕ) → ClearFrom 0 (replicate n 0)
clear_replicate n = record { at = λ i h. zero_everywhere n i }

zero_more : (l : List ℕ) → ((i : ℕ) → get_or l i 0 ≡ 0) → (i : ℕ) → get_or (l ++ (0 ∷ [])) i 0 ≡ 0
zero_more [] c zero = refl
zero_more [] c (suc i) = refl
zero_more (x ∷ l) c zero = c 0
zero_more (x ∷ l) c (suc i) = zero_more l (λ j. c (suc j)) i

pub clear_append : {l : List ℕ} → ClearFrom 0 l → ClearFrom 0 (l ++ (0 ∷ []))
clear_append {l} c = record { at = λ i h. zero_more l (λ j. c.at j (omega arith)) i }

pub clear_valid : {n : ℕ} {l : List ℕ} → length l ≡ n → ClearFrom 0 l → ValidBytes n l
clear_valid {l} long c = record { count = long; each = λ i h. rw (c.at i (omega arith)) (omega arith) }

-- one more place marked, past all those marked
pub marked_clear : {v u : ℕ} {l : List ℕ} → v < u → ClearFrom v l → ClearFrom u (set l v 1)
marked_clear {v} {u} {l} h c = record { at = λ i p. get_or-set_other l v i 1 0 (λ e. omega arith) ∙ c.at i (omega arith) }

pub marked_valid : {n : ℕ} {l : List ℕ} (v : ℕ) → v < n → ValidBytes n l → ValidBytes n (set l v 1)
marked_valid {n} {l} v h w = record { count = length-set l v 1 ∙ w.count; each = λ i p. go i p (eqb i v) refl }
  where
    go : (i : ℕ) → i < n → (t : Bool) → eqb i v ≡ t → get_or (set l v 1) i 0 ≤ 1
    go i p true e = rw (eqb-true i v e, get_or-set_same l v 1 0 (omega (arith, w.count))) (le_refl _)
    go i p false e = rw (get_or-set_other l v i 1 0 (eqb-false i v e)) (w.each i p)

pub marked_members : (n : ℕ) (l : List ℕ) (v : ℕ) → v < n → length l ≡ n → ClearFrom v l
    → members n (ones (set l v 1)) ≡ members n (ones l) ++ (v ∷ [])
marked_members n l v h long c =
    members_more n (ones l) (ones (set l v 1)) v h (λ i p q. clear_none i p c)
    (ap (λ x. eqb x 1) (get_or-set_same l v 1 0 (omega arith)))
    (λ i p. ap (λ x. eqb x 1) (get_or-set_other l v i 1 0 p))

-- Bytes up to a place

-- the first k of n bytes, and 0 after them
abbrev pub up_to : ℕ → ℕ → List ℕ → List ℕ
up_to k n l = take k l ++ replicate (n - k) 0

pub up_to_none : (n : ℕ) (l : List ℕ) → up_to 0 n l ≡ replicate n 0
up_to_none n l = ap (λ k. replicate k 0) (sub-zero n)

pub up_to_all : (n : ℕ) (l : List ℕ) → length l ≡ n → up_to n n l ≡ l
up_to_all n l long =
    let none_left : n - n ≡ 0 = omega arith in
    rw (none_left, append-nil (take n l)) (take_all n l (omega arith))

module _ (k n : ℕ) (l : List ℕ) (long : length l ≡ n) (h : k < n) where
  up_to_next : up_to (suc k) n l ≡ take k l ++ get_or l k 0 ∷ replicate (n - suc k) 0
  up_to_next =
      ap (λ s. s ++ replicate (n - suc k) 0) (take-suc l k 0 (omega arith))
      ∙ append_snoc (take k l) (get_or l k 0) (replicate (n - suc k) 0)

  up_to_here : up_to k n l ≡ take k l ++ 0 ∷ replicate (n - suc k) 0
  up_to_here =
      let one_more : n - k ≡ suc (n - suc k) = omega arith in
      ap (λ i. take k l ++ replicate i 0) one_more

  pub up_to_unmarked : get_or l k 0 ≡ 0 → up_to (suc k) n l ≡ up_to k n l
  up_to_unmarked p = up_to_next ∙ ap (λ x. take k l ++ x ∷ replicate (n - suc k) 0) p ∙ sym up_to_here

  pub up_to_marked : get_or l k 0 ≡ 1 → up_to (suc k) n l ≡ set (up_to k n l) k 1
  up_to_marked p =
      up_to_next
      ∙ ap (λ x. take k l ++ x ∷ replicate (n - suc k) 0) p
      ∙ sym (set_at (take k l) 0 (replicate (n - suc k) 0) 1 k (length-take-le k l (omega arith)))
      ∙ ap (λ s. set s k 1) (sym up_to_here)
