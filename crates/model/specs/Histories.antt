-- Document 02, K1: what may happen to a torus of side L while it is read in R rounds, what is read then, and the set of stacked edges that
-- it stands for.
-- Assumes nothing.
use Rattle.std.specs.Prelude.{ℕ, zero, suc, ◌+◌, ◌<◌, ◌≡◌, Bool, false, ◌&&◌, List, ltb}
use Rattle.std.proofs.Common.{arith, le-ltb}
use Rattle.model.specs.Sums.{Set, ◌⊕◌}
use Rattle.model.specs.Syndrome.{syndrome}
use Rattle.model.specs.Winding.{together}
use Rattle.model.specs.Torus.{torus}
use Rattle.model.specs.Stack.{layer_vertices, StackEdge, flat, upright, edge_number, stack_edge, read_at}

-- A history: the edges of the torus that flip in round k, before it is read, and the vertices that are read wrongly in round k. In the last
-- round nothing is read wrongly.
pub record History (L R : ℕ) : Type 0 where
  pub flips : ℕ → Set
  pub wrong : ℕ → Set
  pub last_right : (k : ℕ) → k + 1 ≡ R → (v : ℕ) → v < layer_vertices L → wrong k v ≡ false

-- all flips so far, in round k: an edge that flipped twice is as it was
abbrev pub flipped_by : (ℕ → Set) → ℕ → Set
flipped_by flips zero = flips 0
flipped_by flips (suc k) = together (flipped_by flips k) (flips (suc k))

-- what the table reads in round k: the torus's syndrome of all flips so far, changed at the wrong readings
abbrev pub read_by : (L R : ℕ) → History L R → ℕ → Set
read_by L R h k v = syndrome (torus L) (flipped_by h.flips k) v ⊕ h.wrong k v

-- these readings are the history's
pub record ReadingsOf (L R : ℕ) (h : History L R) (readings : List ℕ) : Type 0 where
  pub each : (k v : ℕ) → k < R → v < layer_vertices L → read_at L readings k v ≡ read_by L R h k v

-- Its events, as a set of stacked edges: each flip in its round's layer, and each wrong reading the edge from its layer to the next.
abbrev pub happens : (L R : ℕ) → History L R → StackEdge → Bool
happens L R h (flat k e) = h.flips k e
happens L R h (upright k v) = h.wrong k v

abbrev pub events : (L R : ℕ) → History L R → Set
events L R h i = happens L R h (stack_edge L R i)

-- The history that a set of stacked edges comes from: its edges in layer k flip in round k, and where it has the edge from a vertex in
-- layer k to the next layer, that vertex is read wrongly in round k.
abbrev pub history_of : (L R : ℕ) → Set → History L R
history_of L R E =
    record {
      flips = λ k e. E (edge_number L R (flat k e));
      wrong = λ k v. ltb (k + 1) R && E (edge_number L R (upright k v));
      last_right = λ k last v h. rw (le-ltb (k + 1) R (omega arith));
    }
