-- The bytes of no syndrome, flipped by every edge of a set and cleared where a vertex is open, are those of the set's syndrome.
-- Assumes nothing.
use Prim.Native.Nat.{ℕ, ◌≤◌, ◌<◌}
use mathlib.Core.Path.{◌≡◌, refl, sym, ap, ◌∙◌}
use mathlib.Core.Bool.{Bool, true, false, cond, not, ◌&&◌}
use mathlib.Core.List.{List}
use native.Mathlib.Omega.{arith}
use lib.Dec.{eqb}
use lib.ListN.{length, get_or, take, replicate, length-replicate}
use lib.Seq.{get_or-take, length-take-le}
use Rattle.model.specs.Sums.{◌⊕◌, bit, ones, bytes}
use Rattle.model.specs.Board.{Board, Inside, EndsWithin, vertex_limit, edges, is_open}
use Rattle.model.specs.Syndrome.{odd_end, syndrome}
use Rattle.model.proofs.Bits.{byte_bit}
use Rattle.model.proofs.ListLaws.{values_are, zero_everywhere}
use Rattle.verdict.specs.VertexParities.{Bits, Flipped, met_by, Cleared}

-- no vertex is lit
pub unlit_bits : (n : ℕ) → n ≤ vertex_limit → Bits n (replicate vertex_limit 0)
unlit_bits n few = record { limit = few; long = length-replicate {A = ℕ} vertex_limit 0; small = λ v h. rw (zero_everywhere vertex_limit v) (omega arith) }

module _ (B : Board) (inside : Inside B) (opens : length B.opened ≡ B.vertices) (handed : List ℕ) (long : length handed ≡ edges B) where
  pub set_inside : EndsWithin B.vertices (length handed) B.ends
  set_inside = rw long inside

  module _ {l : List ℕ} (f : Flipped (met_by B.ends (ones handed) (length handed)) B.vertices (replicate vertex_limit 0) l) where
    met : (v : ℕ) → v < B.vertices → get_or l v 0 ≡ bit (odd_end B (ones handed) v)
    unfolding odd_end
    met v h =
        byte_bit (get_or l v 0) (f.bits.small v h)
        ∙ ap bit (f.at v h
        ∙ ap (λ x. eqb x 1 ⊕ met_by B.ends (ones handed) (length handed) v) (zero_everywhere vertex_limit v)
        ∙ ap (λ m. met_by B.ends (ones handed) m v) long)

    -- an open vertex has no syndrome
    cleared : (v : ℕ) (o : Bool) → is_open B v ≡ o → cond o 0 (bit (odd_end B (ones handed) v)) ≡ bit (syndrome B (ones handed) v)
    unfolding syndrome
    cleared v true p = sym (ap (λ o. bit (not o && odd_end B (ones handed) v)) p)
    cleared v false p = sym (ap (λ o. bit (not o && odd_end B (ones handed) v)) p)

    pub set_syndrome : {m : List ℕ} → Cleared (length B.opened) B.opened l m
        → take B.vertices m ≡ bytes B.vertices (syndrome B (ones handed))
    set_syndrome {m} c =
        values_are B.vertices _ (take B.vertices m) (length-take-le B.vertices m (omega (arith, c.long, f.bits.limit)))
        (λ v h. get_or-take B.vertices m v 0 h
        ∙ c.at v (omega (arith, opens))
        ∙ ap (cond (is_open B v) 0) (met v h)
        ∙ cleared v (is_open B v) refl)
