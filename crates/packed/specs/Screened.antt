-- What is known of a packed sheet before it is unpacked. No part of what a reader must believe. Assumes nothing.
use Rattle.std.specs.Prelude.{ℕ, ◌≤◌, ◌≡◌, List, length, replicate, Result}
use Rattle.std.proofs.Math.Option.{none, some}
use Rattle.model.specs.declared.refusal.Refusal.{Refusal}
use Rattle.model.specs.Board.{Board, vertex_limit, edge_limit}
use Rattle.model.specs.Words.{word_count, unpacked_sheet}
use Rattle.model.specs.Refusals.{edges_of, decode_refusal}
use Rattle.model.specs.WordRefusals.{decode_packed_refusal}
use Rattle.board.specs.Checks.{test_of}

-- the counts are within the limits, and there are as many words as they fill
pub record Fitting (B : Board) (lit lost : List ℕ) : Type 0 where
  pub vertices_limited : B.vertices ≤ vertex_limit
  pub edges_limited : edges_of B.ends ≤ edge_limit
  pub syndrome_words : length lit ≡ word_count B.vertices
  pub loss_words : length lost ≡ word_count (edges_of B.ends)

-- What a look at the words before decoding says: its refusal is that of the call; where it has none, the words fit, and the rest of the
-- tests are those of decoding.
pub record Screened (B : Board) (lit lost support correction : List ℕ) (r : Result Unit Refusal) : Type 0 where
  pub refused : (n : Refusal) → test_of r ≡ some n → decode_packed_refusal B lit lost support correction ≡ some n
  pub fitting : test_of r ≡ none → Fitting B lit lost
  pub the_rest : test_of r ≡ none
      → decode_packed_refusal B lit lost support correction ≡ decode_refusal (unpacked_sheet B lit lost) support correction

-- buffers for the bytes of a packed sheet, all 0
pub record Unpackable (B : Board) (lit lost syndrome loss : List ℕ) : Type 0 where
  pub fitting : Fitting B lit lost
  pub unlit : syndrome ≡ replicate B.vertices 0
  pub unlost : loss ≡ replicate (edges_of B.ends) 0
