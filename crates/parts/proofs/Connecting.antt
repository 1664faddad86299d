-- The pass over the edges: joining the ends of each makes the trees the parts of the whole board. Assumes nothing.
use Prim.Native.Nat.{ℕ, ◌+◌, ◌*◌, ◌<◌}
use mathlib.Core.Path.{◌≡◌, refl, sym}
use mathlib.Core.Bool.{true}
use mathlib.Core.List.{List}
use native.Mathlib.Nat.{le_of_eq}
use native.Mathlib.Numerals.{add-one}
use lib.ListN.{get_or, length-replicate}
use Rattle.model.specs.Board.{EndsWithin, plain}
use Rattle.model.specs.Components.{labels}
use Rattle.model.specs.Decoding.{parts}
use Rattle.model.specs.Refusals.{edges_of}
use Rattle.theory.proofs.Components.{labels_length}
use Rattle.union_find.specs.declared.Joined.{Joined}
use Rattle.union_find.specs.Packed.{parents_of, EachAlone, JoinsIn}
use Rattle.union_find.proofs.Packing.{alone_packed, packed_alone, rejoined}
use Rattle.union_find.proofs.Labels.{mirrors_alone, mirrors_joined}
use Rattle.parts.specs.Connection.{ConnectsUpTo, Connects}

-- at first every vertex is alone
pub connects_none : {n : ℕ} {ends t : List ℕ} → EachAlone n t → ConnectsUpTo n ends 0 t
connects_none {n} {ends} w =
    record { packed = packed_alone w; mirrors = mirrors_alone (plain n (edges_of ends) ends) (λ e. true) (alone_packed w) }

-- then each edge joins its ends
pub connects_more :
    {n e a b : ℕ} {ends t : List ℕ} → EndsWithin n (edges_of ends) ends → e < edges_of ends → ConnectsUpTo n ends e t
    → a ≡ get_or ends (2 * e) 0 → b ≡ get_or ends (2 * e + 1) 0 → {r : Joined} {t' : List ℕ} → JoinsIn t a b r t'
    → ConnectsUpTo n ends (e + 1) t'
connects_more {n} {e} {ends = ends} w h c first second k =
    let B = plain n (edges_of ends) ends in
    let then = rejoined c.packed (w.first_in_range e h) (w.second_in_range e h) (rw (first, second) at k) in
    let long = le_of_eq (sym (labels_length B (λ e. true) e)) in
    rw (add-one e)
    (record {
      packed = then.packed;
      mirrors =
          mirrors_joined B (λ e. true) e refl c.mirrors c.packed.trees long (w.first_in_range e h) (w.second_in_range e h) then.joins;
    })

-- and the last edge leaves the parts of the whole board
pub connects_whole : {n : ℕ} {ends t : List ℕ} → ConnectsUpTo n ends (edges_of ends) t → Connects n ends (parents_of t)
unfolding parts labels
connects_whole {n} {ends} {t} c =
    record {
      rooted = record { size = c.packed.size; climbs = c.packed.trees.climbs };
      mirrors = rw (length-replicate {A = ℕ} (edges_of ends) 0) c.mirrors;
    }
