-- What stands before the first of a parting byte. No part of what a reader must believe: the reader's inner contracts name it.
-- Assumes nothing.
use Rattle.std.specs.Prelude.{ℕ, cond, List, [], ◌∷◌, eqb}

-- the bytes before the first p, or all of them
unfoldable pub up_to : ℕ → List ℕ → List ℕ
up_to p [] = []
up_to p (b ∷ bs) = cond (eqb b p) [] (b ∷ up_to p bs)
