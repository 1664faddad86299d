-- How the reading of a text stands between two lines, and what the next line makes of it. Assumes nothing.
use Prim.Native.Nat.{ℕ, ◌≤◌, ◌<◌}
use mathlib.Core.Path.{◌≡◌, refl, sym, ap, ap₂, ◌∙◌}
use mathlib.Core.Bool.{true, false}
use mathlib.Core.List.{List}
use mathlib.Core.Option.{some}
use lib.ListN.{length, drop}
use Rattle.model.specs.declared.refusal.Refusal.{Refusal}
use Rattle.model.specs.declared.refusal.Refusal.TheVariants.{MalformedLine}
use Rattle.model.specs.Board.{Sheet, edges, vertex_limit, edge_limit}
use Rattle.model.specs.Text.{newline, parted_by, refused, first_line, begun, read_on, read_text}
use Rattle.model.specs.TextOutcomes.{Buffers, counts}
use Rattle.theory.proofs.TextReading.{first_vertices}
use Rattle.text.specs.declared.line.Line.{Line}
use Rattle.text.specs.Order.{meant, may_stand}
use Rattle.text.specs.Scratch.{Sized, Clear, edges_with, Stores, Holds, ReadsInto}
use Rattle.text.proofs.ReadLaws.{LineIs, NoLine, with_line, may_stand_on, same_stand, goes_on, out_of_place, malformed, finishes, first_is}
use Rattle.text.proofs.HoldLaws.{holds_begun, holds_line, edges_with_lem, vertices_with}
use Rattle.model.specs.Answers.{counts_with}
use Rattle.std.specs.Prelude.{Err}

-- the sheet so far, which the arrays hold, and the line that comes next
pub record Progress (t : List ℕ) (b : Buffers) (n at k : ℕ) (last : Line) (m : ℕ) : Type 0 where
  pub sheet : Sheet
  pub reading : read_text t ≡ read_on sheet (meant last) k (parted_by newline (drop at t))
  pub vertices_are : sheet.board.vertices ≡ n
  pub edges_are : edges sheet.board ≡ m
  pub holds : Holds sheet b

-- a refused text says nothing of what the arrays hold
pub into_refused : (t : List ℕ) (b : Buffers) (r : Refusal) → read_text t ≡ refused r → Sized b → ReadsInto t (Err r) b
into_refused t b r p sized = record { result = sym (ap counts p); sized = sized; held = rw p tt }

-- the first line, which is taken
pub begins : (t : List ℕ) (b : Buffers) (l : Line) (next k' n : ℕ) → LineIs t 0 1 l next k' → first_line (meant l) ≡ some n → Sized b
    → Clear b → Progress t b n next k' l 0
begins t b l next k' n is first sized clear =
    record {
      sheet = begun n;
      reading = first_is t l next k' n is first;
      vertices_are = refl;
      edges_are = refl;
      holds = holds_begun n b sized clear (first_vertices (meant l) n first).vertices_limited;
    }

module _ (t : List ℕ) (b : Buffers) (n at k : ℕ) (last : Line) (m : ℕ) (w : Progress t b n at k last m) where
  -- the rule about the next line, over the sheet's own counts and open bytes
  over_sheet : (l : Line) → may_stand_on w.sheet (meant last) (meant l) ≡ may_stand n m b.opened (meant last) (meant l)
  over_sheet l =
      ap (λ o. may_stand w.sheet.board.vertices (edges w.sheet.board) o (meant last) (meant l)) (sym w.holds.open_held)
      ∙ same_stand w.sheet.board.vertices (edges w.sheet.board) b.opened (meant last) (meant l)
      ∙ ap₂ (λ x y. may_stand x y b.opened (meant last) (meant l)) w.vertices_are w.edges_are

  pub within : (n ≤ vertex_limit) × (m ≤ edge_limit)
  within = (rw w.vertices_are at w.holds.vertices_limited, rw w.edges_are at w.holds.edges_limited)

  pub ends_malformed : at < length t → NoLine t at → read_text t ≡ refused (MalformedLine k)
  ends_malformed h none = w.reading ∙ malformed w.sheet (meant last) k t at w.holds.vertices_limited w.holds.edges_limited h none

  pub finished : length t ≤ at → ReadsInto t (counts_with n m) b
  finished h =
      let is = w.reading ∙ finishes w.sheet (meant last) k t at h in
      record {
        result = ap₂ counts_with (sym w.vertices_are) (sym w.edges_are) ∙ sym (ap counts is);
        sized = w.holds.sized;
        held = rw is w.holds;
      }

  module _ (l : Line) (next k' : ℕ) (is : LineIs t at k l next k') where
    pub ends_out_of_place : may_stand n m b.opened (meant last) (meant l) ≡ false → read_text t ≡ refused (MalformedLine k)
    ends_out_of_place p = w.reading ∙ out_of_place w.sheet (meant last) k t at l next k' is (over_sheet l ∙ p)

    pub goes_further : (m' : ℕ) (b' : Buffers) → may_stand n m b.opened (meant last) (meant l) ≡ true → Stores m (meant l) b m' b'
        → Progress t b' n next k' l m'
    goes_further m' b' p s =
        let X = w.sheet in
        let q = over_sheet l ∙ p in
        record {
          sheet = with_line X (meant l);
          reading = w.reading ∙ goes_on X (meant last) k t at l next k' is q;
          vertices_are = vertices_with X (meant l) ∙ w.vertices_are;
          edges_are = edges_with_lem X (meant l) ∙ ap (λ i. edges_with i (meant l)) w.edges_are ∙ sym s.count;
          holds = rw (s.arrays, ← w.edges_are) (holds_line X b w.holds (meant last) (meant l) q);
        }
