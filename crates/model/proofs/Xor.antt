-- Laws of exclusive or, and of `&&` beside it. Assumes nothing.
use mathlib.Core.Path.{◌≡◌, refl, ap, ◌∙◌}
use mathlib.Core.Bool.{Bool, true, false, not, ◌&&◌, true≢false, false≢true}
use Rattle.model.specs.Sums.{◌⊕◌}

pub xor_false : (a : Bool) → a ⊕ false ≡ a
xor_false true = refl
xor_false false = refl

pub xor_self : (a : Bool) → a ⊕ a ≡ false
xor_self true = refl
xor_self false = refl

pub xor_comm : (a b : Bool) → a ⊕ b ≡ b ⊕ a
xor_comm true true = refl
xor_comm true false = refl
xor_comm false true = refl
xor_comm false false = refl

pub xor_assoc : (a b c : Bool) → a ⊕ b ⊕ c ≡ a ⊕ (b ⊕ c)
xor_assoc false b c = refl
xor_assoc true false c = refl
xor_assoc true true false = refl
xor_assoc true true true = refl

-- the second time undoes the first
pub xor_twice : (a b : Bool) → a ⊕ b ⊕ b ≡ a
xor_twice a b = xor_assoc a b b ∙ ap (λ t. a ⊕ t) (xor_self b) ∙ xor_false a

-- the middle two change places
pub xor_swap : (a b c d : Bool) → (a ⊕ b) ⊕ (c ⊕ d) ≡ (a ⊕ c) ⊕ (b ⊕ d)
xor_swap false b false d = refl
xor_swap false b true d = rw (xor_comm b (not d)) (go d b)
  where
    go : (d b : Bool) → (not d) ⊕ b ≡ not (b ⊕ d)
    go false false = refl
    go false true = refl
    go true false = refl
    go true true = refl
xor_swap true false false d = refl
xor_swap true true false d = go d
  where
    go : (d : Bool) → d ≡ not (not d)
    go false = refl
    go true = refl
xor_swap true false true d = go d
  where
    go : (d : Bool) → not (not d) ≡ d
    go false = refl
    go true = refl
xor_swap true true true d = refl

-- what differs nowhere is equal
pub xor_equal : (a b : Bool) → a ⊕ b ≡ false → a ≡ b
xor_equal true true p = refl
xor_equal true false p = p
xor_equal false true p = absurd (true≢false p)
xor_equal false false p = refl

pub equal_xor : (a b : Bool) → a ≡ b → a ⊕ b ≡ false
equal_xor a b p = rw p (xor_self b)

pub and_xor : (a b c : Bool) → (a && (b ⊕ c)) ≡ (a && b) ⊕ (a && c)
and_xor true b c = refl
and_xor false b c = refl

pub xor_and : (a b c : Bool) → ((a ⊕ b) && c) ≡ (a && c) ⊕ (b && c)
xor_and true true true = refl
xor_and true true false = refl
xor_and true false true = refl
xor_and true false false = refl
xor_and false b c = refl

pub and_left : (a b : Bool) → (a && b) ≡ true → a ≡ true
and_left true b p = refl
and_left false b p = p

pub and_right : (a b : Bool) → (a && b) ≡ true → b ≡ true
and_right true b p = p
and_right false b p = absurd (false≢true p)
