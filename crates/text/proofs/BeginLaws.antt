-- The first line: when it is taken. Assumes nothing.
use Prim.Native.Nat.{ℕ}
use mathlib.Core.Path.{◌≡◌, refl}
use mathlib.Core.Option.{Option, none, some}
use Rattle.std.specs.Prelude.{Some, None}
use Rattle.model.specs.Text.{first_line}
use Rattle.model.proofs.Contradiction.{zero_one}
use Rattle.text.specs.declared.line.Line.{Line}
use Rattle.text.specs.declared.order.Sofar.{Sofar}
use Rattle.text.specs.Order.{meant}
use Rattle.text.specs.Stages.{sheet_after, with_vertices, begun_with}

-- the sheet after it
pub record BegunBy (l : Line) (s : Sofar) : Type 0 where
  pub first : first_line (meant l) ≡ some s.vertices
  pub no_edge : s.edges ≡ 0
  pub last_is : s.last ≡ l

pub is_begun : (l : Line) (s : Sofar) → Some s ≡ begun_with l → BegunBy l s
is_begun l s p = go (first_line (meant l)) refl p
  where
    go : (o : Option ℕ) → first_line (meant l) ≡ o → Some s ≡ with_vertices o l → BegunBy l s
    go none q p = zero_one (cc)
    go (some i) q p =
        let same : s ≡ sheet_after i 0 l = cc in
        rw same (record { first = q; no_edge = refl; last_is = refl })

pub not_begun : (l : Line) → None ≡ begun_with l → first_line (meant l) ≡ none
not_begun l p = go (first_line (meant l)) refl p
  where
    go : (o : Option ℕ) → first_line (meant l) ≡ o → None ≡ with_vertices o l → first_line (meant l) ≡ none
    go none q p = q
    go (some i) q p = zero_one (cc)
