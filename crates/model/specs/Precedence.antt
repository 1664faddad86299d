-- Document 01, "Numbers and places": which refusal a call gives where several apply. It is the least in the order by number and then by
-- place; this is said here of a list of rules whose numbers rise, and of any list by its own order. Two numbers stand in no list:
-- decoding and the verdict test for 10 once no rule of their lists is broken, and the reader finds 13 line by line once none of its own is.
-- Assumes nothing.
use Rattle.std.specs.Prelude.{ℕ, ◌≤◌, ◌<◌, ◌≡◌, Bool, true, false, ◌&&◌, ◌⊎◌, List, [], ◌∷◌, ◌++◌, ltb}
use Rattle.model.specs.declared.refusal.Refusal.{Refusal}
use Rattle.model.specs.Sums.{Set}
use Rattle.model.specs.Refusals.{Rule, whole, each, number_of, place_of}

-- What applies

-- one of the n places breaks the rule, and r is its refusal
pub record BrokenAt (n : ℕ) (broken : Set) (at : ℕ → Refusal) (r : Refusal) : Type 0 where
  pub place : ℕ
  pub below : place < n
  pub breaks : broken place ≡ true
  pub shows : r ≡ at place

-- the rule is broken with the refusal r
abbrev pub Broken : Rule → Refusal → Type 0
Broken (whole kept refusal) r = (kept ≡ false) × (r ≡ refusal)
Broken (each n broken at) r = BrokenAt n broken at r

-- r applies: some rule of the list is broken with it
pub data Applies : List Rule → Refusal → Type 0 where
  here : {R : Rule} {rules : List Rule} {r : Refusal} → Broken R r → Applies (R ∷ rules) r
  there : {R : Rule} {rules : List Rule} {r : Refusal} → Applies rules r → Applies (R ∷ rules) r

abbrev pub NoneApplies : List Rule → Type 0
NoneApplies rules = (r : Refusal) → Applies rules r → ⊥

-- By the list's own order

-- the rule is broken with r, and at no smaller place
pub record BrokenFirst (R : Rule) (r : Refusal) : Type 0 where
  pub broken : Broken R r
  pub smallest_place : (q : Refusal) → Broken R q → place_of r ≤ place_of q

-- r decides: the first rule of the list that is broken at all is broken with r, and at no smaller place
pub record Decides (rules : List Rule) (r : Refusal) : Type 0 where
  pub before : List Rule
  pub rule : Rule
  pub after : List Rule
  pub split : rules ≡ before ++ (rule ∷ after)
  pub none_before : NoneApplies before
  pub first : BrokenFirst rule r

-- By the numbers

-- a smaller number comes first, then a smaller place
abbrev pub Precedes : Refusal → Refusal → Type 0
Precedes r q = (number_of r < number_of q) ⊎ ((number_of r ≡ number_of q) × (place_of r ≤ place_of q))

-- r has the smallest number of all that apply, and of those with its number the smallest place
pub record Smallest (rules : List Rule) (r : Refusal) : Type 0 where
  pub applies : Applies rules r
  pub smallest : (q : Refusal) → Applies rules q → Precedes r q

-- A rule has the number k: every refusal of it has this number, and that of place i has the place i.
abbrev pub HasNumber : ℕ → Rule → Type 0
HasNumber k (whole kept refusal) = number_of refusal ≡ k
HasNumber k (each n broken at) = (i : ℕ) → (number_of (at i) ≡ k) × (place_of (at i) ≡ i)

abbrev pub HaveNumbers : List ℕ → List Rule → Type 0
HaveNumbers [] [] = Unit {0}
HaveNumbers (k ∷ ks) (R ∷ rules) = HasNumber k R × HaveNumbers ks rules
HaveNumbers [] (R ∷ rules) = ⊥
HaveNumbers (k ∷ ks) [] = ⊥

-- the rules of a list have these numbers, one after the other
pub record Numbered (numbers : List ℕ) (rules : List Rule) : Type 0 where
  pub in_turn : HaveNumbers numbers rules

-- each number is above the one before it, and the first above k
abbrev pub rises : ℕ → List ℕ → Bool
rises k [] = true
rises k (n ∷ ns) = ltb k n && rises n ns

-- The answer a is a refusal, and the smallest that applies; an answer holds its refusal in the case `refused`.
pub record AnswersSmallest {A : Type 0} (rules : List Rule) (refused : Refusal → A) (a : A) : Type 0 where
  pub refusal : Refusal
  pub smallest : Smallest rules refusal
  pub answer : a ≡ refused refusal
