-- What may be searched for an odd part. Internal: no part of what a reader of a product call must believe.
-- Assumes nothing.
use Rattle.std.specs.Prelude.{ℕ, ◌≡◌, List, length}
use Rattle.model.specs.Board.{EndsWithin, ValidBytes}
use Rattle.model.specs.Refusals.{edges_of}

-- the ends of every edge are among the n vertices, and there are an open byte and a syndrome byte for each vertex
pub record Searchable (n : ℕ) (ends opened syndrome : List ℕ) : Type 0 where
  pub board : EndsWithin n (edges_of ends) ends
  pub open_bytes : length opened ≡ n
  pub bytes : ValidBytes n syndrome
