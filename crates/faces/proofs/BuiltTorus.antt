-- The torus that is built for the verdict, and the sheet that is judged on it. Assumes nothing.
use Prim.Native.Nat.{ℕ, ◌*◌}
use mathlib.Core.Path.{◌≡◌, sym, subst, ◌∙◌}
use mathlib.Core.Bool.{false≢true}
use mathlib.Core.List.{List}
use lib.ListN.{replicate}
use Rattle.model.specs.declared.answers.Verdict.{Verdict}
use Rattle.model.specs.Board.{ValidBytes, ValidSheet, Unlit, board_of, sheet_of, edges}
use Rattle.model.specs.Sums.{Set}
use Rattle.model.specs.Torus.{torus_ends, torus_marks, torus}
use Rattle.model.specs.FacesOutcomes.{torus_sheet}
use Rattle.model.proofs.OpenBytes.{none_open}
use Rattle.verdict.specs.Judging.{Comparable, Compares}
use Rattle.torus.proofs.TorusRows.{edge_count}
use Rattle.torus.proofs.TorusValid.{torus_valid}
use Rattle.faces.specs.Lent.{OnTorus, TorusLent, Judged}

-- what is built is the torus
built : (L : ℕ) (ends marks opened : List ℕ) → ends ≡ torus_ends L → marks ≡ torus_marks L → opened ≡ replicate (L * L) 0
    → board_of (L * L) ends marks opened ≡ torus L
unfolding torus
built L ends marks opened p q r = rw (p, q, r)

-- a byte for each of its edges
pub edge_bytes : (L : ℕ) (l : List ℕ) → ValidBytes (2 * (L * L)) l → ValidBytes (edges (torus L)) l
edge_bytes L l v = rw (edge_count L) v

-- no vertex of it is open, so none that is open is lit
pub torus_unlit : (L : ℕ) (S : Set) → Unlit (torus L) S
unfolding torus
torus_unlit L S v h p = absurd (false≢true (sym (none_open (L * L) (torus_ends L) (torus_marks L) v) ∙ p))

module _ (L : ℕ) (syndrome loss handed : List ℕ) (w : OnTorus L syndrome loss handed) where
  pub sheet_valid : ValidSheet (torus_sheet L syndrome loss)
  unfolding torus
  sheet_valid =
      record {
        board = torus_valid L w.side;
        syndrome = w.syndrome_bytes;
        loss = edge_bytes L loss w.loss_bytes;
        unlit = torus_unlit L _;
      }

  -- it can be compared in the call's own buffers
  module _ (ends marks opened support correction : List ℕ) (t : TorusLent L ends marks opened support correction)
      (ends' marks' : List ℕ) (e : ends' ≡ torus_ends L) (m : marks' ≡ torus_marks L) where
    is_torus : board_of (L * L) ends' marks' opened ≡ torus L
    is_torus = built L ends' marks' opened e m t.none_open

    pub comparable : Comparable (sheet_of (board_of (L * L) ends' marks' opened) syndrome loss) handed support correction
    comparable =
        subst (λ B. Comparable (sheet_of B syndrome loss) handed support correction) (sym is_torus)
        (record {
          sheet = sheet_valid;
          handed_bytes = edge_bytes L handed w.handed_bytes;
          support_long = t.support_sized ∙ sym (edge_count L);
          correction_long = t.correction_sized ∙ sym (edge_count L);
        })

    pub compared : (r : Verdict) (support' correction' : List ℕ)
        → Compares (sheet_of (board_of (L * L) ends' marks' opened) syndrome loss) handed support correction r support' correction'
        → Judged L syndrome loss handed correction r correction'
    compared r support' correction' k =
        let on-torus = subst (λ B. Compares (sheet_of B syndrome loss) handed support correction r support' correction') is_torus k in
        record { judges = on-torus.judges; correction_bytes = on-torus.correction_bytes }
