-- The smallest number that applies wins, then the smallest place: the law of a list whose numbers rise. Assumes nothing.
use Prim.Native.Nat.{ℕ, ◌<◌}
use mathlib.Core.Path.{◌≡◌, refl, sym, ap, ◌∙◌}
use mathlib.Core.Bool.{true}
use mathlib.Core.Logic.{◌↔◌, inl, inr}
use mathlib.Core.List.{List, [], ◌∷◌, ◌++◌}
use mathlib.Core.Option.{none, some}
use native.Mathlib.Omega.{arith}
use borrow.Author.Tests.{ltb-true}
use lib.Dec.{ltb}
use Rattle.model.specs.declared.refusal.Refusal.{Refusal}
use Rattle.model.specs.Refusals.{Rule, Test, refusal_of, number_of, place_of}
use Rattle.model.specs.Outcomes.{answer}
use Rattle.model.specs.Precedence.{Applies, here, there, NoneApplies, BrokenFirst, Precedes, Smallest, HaveNumbers, Numbered, rises, AnswersSmallest}
use Rattle.model.proofs.Xor.{and_left, and_right}
use Rattle.theory.proofs.Precedence.{its_number, same_place, empty_applies, none_exactly, decides_exactly}

-- the first number is above k, and the others rise from it
first_above : (k n : ℕ) (ns : List ℕ) → rises k (n ∷ ns) ≡ true → k < n
first_above k n ns up = ltb-true k n (and_left (ltb k n) (rises n ns) up)

others_rise : (k n : ℕ) (ns : List ℕ) → rises k (n ∷ ns) ≡ true → rises n ns ≡ true
others_rise k n ns up = and_right (ltb k n) (rises n ns) up

-- what applies has a number above k, where the list's numbers rise from k
applies_above : (k : ℕ) (ns : List ℕ) (rules : List Rule) → HaveNumbers ns rules → rises k ns ≡ true → (q : Refusal) → Applies rules q
    → k < number_of q
applies_above k [] [] h up q a = absurd (empty_applies q a)
applies_above k (n ∷ ns) [] h up q a = absurd h
applies_above k [] (R ∷ rules) h up q a = absurd h
applies_above k (n ∷ ns) (R ∷ rules) h up q (here b) = omega (arith, its_number n R h.0 q b, first_above k n ns up)
applies_above k (n ∷ ns) (R ∷ rules) h up q (there a) =
    omega (arith, applies_above n ns rules h.1 (others_rise k n ns up) q a, first_above k n ns up)

-- what the first rule is broken with has its number, and what applies after it a larger one
first_smallest : (k n : ℕ) (ns : List ℕ) (R : Rule) (after : List Rule) → HaveNumbers (n ∷ ns) (R ∷ after) → rises k (n ∷ ns) ≡ true
    → (r : Refusal) → BrokenFirst R r → Smallest (R ∷ after) r
first_smallest k n ns R after h up r w = record { applies = here w.broken; smallest = smallest }
  where
    its : number_of r ≡ n
    its = its_number n R h.0 r w.broken

    smallest : (q : Refusal) → Applies (R ∷ after) q → Precedes r q
    smallest q (here b) = inr (its ∙ sym (its_number n R h.0 q b), w.smallest_place q b)
    smallest q (there a) = inl (omega (arith, its, applies_above n ns after h.1 (others_rise k n ns up) q a))

-- so the first rule that is broken at all has the smallest number that applies
decides_smallest : (k : ℕ) (ns : List ℕ) (before : List Rule) (R : Rule) (after : List Rule) → HaveNumbers ns (before ++ (R ∷ after))
    → rises k ns ≡ true → NoneApplies before → (r : Refusal) → BrokenFirst R r → Smallest (before ++ (R ∷ after)) r
decides_smallest k [] [] R after h up none_before r w = absurd h
decides_smallest k [] (S ∷ before) R after h up none_before r w = absurd h
decides_smallest k (n ∷ ns) [] R after h up none_before r w = first_smallest k n ns R after h up r w
decides_smallest k (n ∷ ns) (S ∷ before) R after h up none_before r w =
    let s = decides_smallest n ns before R after h.1 (others_rise k n ns up) (λ q a. none_before q (there a)) r w in
    record { applies = there s.applies; smallest = smallest s.smallest }
  where
    smallest : ((q : Refusal) → Applies (before ++ (R ∷ after)) q → Precedes r q) → (q : Refusal)
        → Applies (S ∷ before ++ (R ∷ after)) q → Precedes r q
    smallest later q (here b) = absurd (none_before q (here b))
    smallest later q (there a) = later q a

-- what applies is known by its number and its place
same_refusal : (k : ℕ) (ns : List ℕ) (rules : List Rule) → HaveNumbers ns rules → rises k ns ≡ true → (r q : Refusal) → Applies rules r
    → Applies rules q → number_of r ≡ number_of q → place_of r ≡ place_of q → r ≡ q
same_refusal k [] [] h up r q a b number place = absurd (empty_applies q b)
same_refusal k (n ∷ ns) [] h up r q a b number place = absurd h
same_refusal k [] (R ∷ rules) h up r q a b number place = absurd h
same_refusal k (n ∷ ns) (R ∷ rules) h up r q (here a) (here b) number place = same_place n R h.0 r q a b place
same_refusal k (n ∷ ns) (R ∷ rules) h up r q (here a) (there b) number place =
    absurd (omega (arith, its_number n R h.0 r a, applies_above n ns rules h.1 (others_rise k n ns up) q b))
same_refusal k (n ∷ ns) (R ∷ rules) h up r q (there a) (here b) number place =
    absurd (omega (arith, its_number n R h.0 q b, applies_above n ns rules h.1 (others_rise k n ns up) r a))
same_refusal k (n ∷ ns) (R ∷ rules) h up r q (there a) (there b) number place =
    same_refusal n ns rules h.1 (others_rise k n ns up) r q a b number place

-- of two refusals that precede each other, number and place are the same
same_rank : (r q : Refusal) → Precedes r q → Precedes q r → (number_of r ≡ number_of q) × (place_of r ≡ place_of q)
same_rank r q (inl a) (inl b) = absurd (omega arith)
same_rank r q (inl a) (inr b) = absurd (omega arith)
same_rank r q (inr a) (inl b) = absurd (omega arith)
same_rank r q (inr a) (inr b) = (a.0, omega arith)

module _ {ns : List ℕ} {rules : List Rule} (h : Numbered ns rules) (up : rises 0 ns ≡ true) where
  pub given_smallest : (r : Refusal) → refusal_of rules ≡ some r → Smallest rules r
  given_smallest r p =
      let d = (decides_exactly h r).0 p in
      let h : HaveNumbers ns (d.before ++ (d.rule ∷ d.after)) = rw d.split at h.in_turn in
      rw d.split (decides_smallest 0 ns d.before d.rule d.after h up d.none_before r d.first)

  smallest_given : (r : Refusal) → Smallest rules r → (t : Test) → refusal_of rules ≡ t → t ≡ some r
  smallest_given r s none p = absurd ((none_exactly rules).0 p r s.applies)
  smallest_given r s (some q) p =
      let v = given_smallest q p in
      let same = same_rank q r (v.smallest r s.applies) (s.smallest q v.applies) in
      ap some (same_refusal 0 ns rules h.in_turn up q r v.applies s.applies same.0 same.1)

  -- Theorem: the list refuses with r exactly where r is the smallest that applies.
  pub smallest_exactly : (r : Refusal) → (refusal_of rules ≡ some r) ↔ Smallest rules r
  smallest_exactly r = (given_smallest r, λ s. smallest_given r s (refusal_of rules) refl)

  -- Theorem: where anything applies, a call that tests these rules answers with the smallest refusal that does.
  pub answers_smallest : {A : Type 0} (refused : Refusal → A) (else : A) (q : Refusal) → Applies rules q
      → AnswersSmallest rules refused (answer (refusal_of rules) refused else)
  answers_smallest refused else q a = go (refusal_of rules) refl
    where
      go : (t : Test) → refusal_of rules ≡ t → AnswersSmallest rules refused (answer t refused else)
      go none p = absurd ((none_exactly rules).0 p q a)
      go (some r) p = record { refusal = r; smallest = given_smallest r p; answer = refl }
