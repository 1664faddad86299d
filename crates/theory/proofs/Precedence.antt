-- Which refusal a list of rules gives, by the list's own order: that of the first rule that is broken, at the smallest place that breaks it.
-- Assumes nothing.
use Prim.Native.Nat.{ℕ, ◌≤◌, ◌<◌}
use mathlib.Core.Path.{◌≡◌, refl, sym, ap, ◌∙◌}
use mathlib.Core.Bool.{Bool, true, false, true≢false, ◌||◌}
use mathlib.Core.Logic.{◌↔◌, ◌≢◌}
use mathlib.Core.List.{List, [], ◌∷◌, ◌++◌}
use mathlib.Core.Option.{Option, none, some, none-ne-some, some-ne-none}
use native.Mathlib.Omega.{arith}
use borrow.Author.Tests.{eq-eqb}
use lib.Dec.{eqb}
use Rattle.std.proofs.lemmas.Bool.{or_right}
use Rattle.model.specs.declared.refusal.Refusal.{Refusal}
use Rattle.model.specs.Sums.{Set, first_up_to}
use Rattle.model.specs.Refusals.{Rule, whole, each, Test, refused_at, tested, refusal_of, number_of, place_of}
use Rattle.model.specs.Outcomes.{answer}
use Rattle.model.specs.Precedence.{Broken, Applies, here, there, NoneApplies, BrokenFirst, Decides, HasNumber, HaveNumbers, Numbered}
use Rattle.model.proofs.SumLaws.{First, none_first, first_found}
use Rattle.model.proofs.RuleLists.{refusal_append}

-- One rule

-- what a pass over n places finds
record Found (n : ℕ) (broken : Set) (at : ℕ → Refusal) (r : Refusal) : Type 0 where
  place : ℕ
  first : First n broken place
  shows : r ≡ at place

found : (n : ℕ) (broken : Set) (at : ℕ → Refusal) (r : Refusal) → tested (each n broken at) ≡ some r → Found n broken at r
found n broken at r p = go (first_up_to n broken) refl p
  where
    go : (o : Option ℕ) → first_up_to n broken ≡ o → refused_at o at ≡ some r → Found n broken at r
    go none q p = absurd (none-ne-some r p)
    go (some i) q p = record { place = i; first = first_found n broken i q; shows = cc }

-- its test passes exactly where it is broken with nothing
tested_none : (R : Rule) → tested R ≡ none → (r : Refusal) → Broken R r → ⊥
tested_none (whole true n) p r b = true≢false b.0
tested_none (whole false n) p r b = some-ne-none n p
tested_none (each n broken at) p r b = go (first_up_to n broken) refl p
  where
    go : (o : Option ℕ) → first_up_to n broken ≡ o → refused_at o at ≡ none → ⊥
    go none q p = true≢false (sym b.breaks ∙ none_first n broken q b.place b.below)
    go (some i) q p = some-ne-none (at i) p

tested_broken : (R : Rule) (r : Refusal) → tested R ≡ some r → Broken R r
tested_broken (whole true n) r p = absurd (none-ne-some r p)
tested_broken (whole false n) r p = (refl, cc)
tested_broken (each n broken at) r p =
    let f = found n broken at r p in
    record { place = f.place; below = f.first.less; breaks = f.first.holds; shows = f.shows }

none_tested : (R : Rule) → ((r : Refusal) → Broken R r → ⊥) → tested R ≡ none
none_tested R kept = go (tested R) refl
  where
    go : (t : Test) → tested R ≡ t → tested R ≡ none
    go none p = p
    go (some r) p = absurd (kept r (tested_broken R r p))

-- of the refusals with which it is broken, no two have the same place
pub same_place : (k : ℕ) (R : Rule) → HasNumber k R → (r q : Refusal) → Broken R r → Broken R q → place_of r ≡ place_of q → r ≡ q
same_place k (whole kept n) h r q b c p = b.1 ∙ sym c.1
same_place k (each n broken at) h r q b c p =
    b.shows
    ∙ ap at (sym (h b.place).1 ∙ ap place_of (sym b.shows) ∙ p ∙ ap place_of c.shows ∙ (h c.place).1)
    ∙ sym c.shows

-- every one of them has the rule's number
pub its_number : (k : ℕ) (R : Rule) → HasNumber k R → (r : Refusal) → Broken R r → number_of r ≡ k
its_number k (whole kept n) h r b = ap number_of b.1 ∙ h
its_number k (each n broken at) h r b = ap number_of b.shows ∙ (h b.place).0

-- its test fails with the one of the smallest place
tested_first : (k : ℕ) (R : Rule) → HasNumber k R → (r : Refusal) → tested R ≡ some r → BrokenFirst R r
tested_first k R h r p = record { broken = tested_broken R r p; smallest_place = smallest R h p }
  where
    smallest : (R : Rule) → HasNumber k R → tested R ≡ some r → (q : Refusal) → Broken R q → place_of r ≤ place_of q
    smallest (whole kept n) h p q c =
        let same : place_of r ≡ place_of q = ap place_of ((tested_broken (whole kept n) r p).1 ∙ sym c.1) in
        omega arith
    smallest (each n broken at) h p q c =
        let f = found n broken at r p in
        let of-r : place_of r ≡ f.place = ap place_of f.shows ∙ (h f.place).1 in
        let of-q : place_of q ≡ c.place = ap place_of c.shows ∙ (h c.place).1 in
        let not_before : c.place < f.place → ⊥ = λ l. true≢false (sym c.breaks ∙ f.first.before c.place l) in
        omega arith

first_tested : (k : ℕ) (R : Rule) → HasNumber k R → (r : Refusal) → BrokenFirst R r → tested R ≡ some r
first_tested k R h r w = go (tested R) refl
  where
    go : (t : Test) → tested R ≡ t → tested R ≡ some r
    go none p = absurd (tested_none R p r w.broken)
    go (some q) p =
        let v = tested_first k R h q p in
        let less = w.smallest_place q v.broken in
        let more = v.smallest_place r w.broken in
        p ∙ ap some (same_place k R h q r v.broken w.broken (omega arith))

-- A list of rules

-- its first rule decides where it is broken, and otherwise the rest
first_decides : (R : Rule) (rules : List Rule) (r : Refusal) → tested R ≡ some r → refusal_of (R ∷ rules) ≡ some r
first_decides R rules r p = rw p

rest_decides : (R : Rule) (rules : List Rule) → tested R ≡ none → refusal_of (R ∷ rules) ≡ refusal_of rules
rest_decides R rules p = rw p

pub empty_applies : NoneApplies []
empty_applies r a = elim a [ ]

-- Theorem: a list refuses nothing exactly where nothing applies.
pub none_exactly : (rules : List Rule) → (refusal_of rules ≡ none) ↔ NoneApplies rules
none_exactly [] = (λ p. empty_applies, λ n. refl)
none_exactly (R ∷ rules) = (
  passes (none_exactly rules).0 (tested R) refl,
  λ n. rest_decides R rules (none_tested R (λ r b. n r (here b))) ∙ (none_exactly rules).1 (λ r a. n r (there a)),
)
  where
    passes : (refusal_of rules ≡ none → NoneApplies rules) → (t : Test) → tested R ≡ t → refusal_of (R ∷ rules) ≡ none
        → NoneApplies (R ∷ rules)
    passes later none e p r (here b) = tested_none R e r b
    passes later none e p r (there a) = later (sym (rest_decides R rules e) ∙ p) r a
    passes later (some q) e p r a = absurd (some-ne-none q (sym (first_decides R rules q e) ∙ p))

-- a rule of a numbered list has a number
numbered_rule : (ns : List ℕ) (before : List Rule) (R : Rule) (after : List Rule) → HaveNumbers ns (before ++ (R ∷ after))
    → (n : ℕ) × HasNumber n R
numbered_rule [] [] R after h = absurd h
numbered_rule [] (S ∷ before) R after h = absurd h
numbered_rule (n ∷ ns) [] R after h = (n, h.0)
numbered_rule (n ∷ ns) (S ∷ before) R after h = numbered_rule ns before R after h.1

decides_given : (ns : List ℕ) (rules : List Rule) → HaveNumbers ns rules → (r : Refusal) → Decides rules r → refusal_of rules ≡ some r
decides_given ns rules h r d =
    let h : HaveNumbers ns (d.before ++ (d.rule ∷ d.after)) = rw d.split at h in
    let k = numbered_rule ns d.before d.rule d.after h in
    ap refusal_of d.split
    ∙ refusal_append d.before (d.rule ∷ d.after)
    ∙ rw ((none_exactly d.before).1 d.none_before)
    (first_decides d.rule d.after r (first_tested k.0 d.rule k.1 r d.first))

given_decides : (ns : List ℕ) (rules : List Rule) → HaveNumbers ns rules → (r : Refusal) → refusal_of rules ≡ some r → Decides rules r
given_decides [] [] h r p = absurd (none-ne-some r p)
given_decides (n ∷ ns) [] h r p = absurd h
given_decides [] (R ∷ rules) h r p = absurd h
given_decides (n ∷ ns) (R ∷ rules) h r p = go (given_decides ns rules h.1 r) (tested R) refl
  where
    go : (refusal_of rules ≡ some r → Decides rules r) → (t : Test) → tested R ≡ t → Decides (R ∷ rules) r
    go later (some q) e =
        record {
          before = [];
          rule = R;
          after = rules;
          split = refl;
          none_before = empty_applies;
          first = tested_first n R h.0 r (e ∙ sym (first_decides R rules q e) ∙ p);
        }
    go later none e =
        let d = later (sym (rest_decides R rules e) ∙ p) in
        record {
          before = R ∷ d.before;
          rule = d.rule;
          after = d.after;
          split = ap (λ l. R ∷ l) d.split;
          none_before = kept d.none_before;
          first = d.first;
        }
      where
        kept : {before : List Rule} → NoneApplies before → NoneApplies (R ∷ before)
        kept none_before q (here b) = tested_none R e q b
        kept none_before q (there a) = none_before q a

-- Theorem: a list refuses with r exactly where r decides by the list's own order.
pub decides_exactly : {ns : List ℕ} {rules : List Rule} → Numbered ns rules → (r : Refusal) → (refusal_of rules ≡ some r) ↔ Decides rules r
decides_exactly {ns} {rules} h r = (given_decides ns rules h.in_turn r, decides_given ns rules h.in_turn r)

-- what a list refuses with applies
refused_applies : (rules : List Rule) (r : Refusal) → refusal_of rules ≡ some r → Applies rules r
refused_applies [] r p = absurd (none-ne-some r p)
refused_applies (R ∷ rules) r p = go (refused_applies rules r) (tested R) refl
  where
    go : (refusal_of rules ≡ some r → Applies rules r) → (t : Test) → tested R ≡ t → Applies (R ∷ rules) r
    go later none e = there (later (sym (rest_decides R rules e) ∙ p))
    go later (some q) e = here (tested_broken R r (e ∙ sym (first_decides R rules q e) ∙ p))

-- Theorem: a number is given only where nothing with another number applies to the rules that are tested before.
pub earlier_kept : (front back : List Rule) (r : Refusal) → refusal_of (front ++ back) ≡ some r
    → ((q : Refusal) → Applies front q → number_of q ≢ number_of r) → NoneApplies front
earlier_kept front back r p others = go (refusal_of front) refl
  where
    go : (t : Test) → refusal_of front ≡ t → NoneApplies front
    go none e = (none_exactly front).0 e
    go (some q) e =
        let given : some q ≡ some r = rw e at (sym (refusal_append front back) ∙ p) in
        let same : q ≡ r = cc in
        absurd (others q (refused_applies front q e) (ap number_of same))

-- k is one of the numbers
abbrev pub one_of : ℕ → List ℕ → Bool
one_of k [] = false
one_of k (n ∷ ns) = eqb k n || one_of k ns

-- what applies has one of the list's numbers
applies_one_of : (ns : List ℕ) (rules : List Rule) → HaveNumbers ns rules → (r : Refusal) → Applies rules r → one_of (number_of r) ns ≡ true
applies_one_of [] [] h r a = absurd (empty_applies r a)
applies_one_of (n ∷ ns) [] h r a = absurd h
applies_one_of [] (R ∷ rules) h r a = absurd h
applies_one_of (n ∷ ns) (R ∷ rules) h r (here b) = rw (eq-eqb (number_of r) n (its_number n R h.0 r b))
applies_one_of (n ∷ ns) (R ∷ rules) h r (there a) = or_right (eqb (number_of r) n) _ (applies_one_of ns rules h.1 r a)

-- Theorem: a number that is none of the list's is given only where nothing of the list applies.
pub other_number : {ns : List ℕ} {rules : List Rule} → Numbered ns rules → (r : Refusal) → one_of (number_of r) ns ≡ false
    → {A : Type 0} (refused : Refusal → A) (else : A) → ((q : Refusal) → refused q ≡ refused r → q ≡ r)
    → answer (refusal_of rules) refused else ≡ refused r → NoneApplies rules
other_number {ns} {rules} h r other refused else same p = go (refusal_of rules) refl p
  where
    go : (t : Test) → refusal_of rules ≡ t → answer t refused else ≡ refused r → NoneApplies rules
    go none e p = (none_exactly rules).0 e
    go (some q) e p =
        let listed = applies_one_of ns rules h.in_turn q (refused_applies rules q e) in
        absurd (true≢false (sym listed ∙ ap (λ x. one_of (number_of x) ns) (same q p) ∙ other))
