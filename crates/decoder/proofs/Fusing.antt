-- The listed edges fused one after the other: the book is that of the parts by the edges it had and the listed edges passed.
-- What is kept of them is true still, and the rings are joined with them. Assumes nothing.
use Prim.Native.Nat.{ℕ, suc, ◌+◌, ◌*◌, ◌<◌}
use mathlib.Core.Path.{◌≡◌, refl, sym, ◌∙◌}
use mathlib.Core.Bool.{Bool, true, false, not, ◌&&◌, ◌||◌, or-false, or_assoc, false≢true}
use mathlib.Core.List.{List}
use native.Mathlib.Nat.{le_refl}
use native.Mathlib.Omega.{arith}
use lib.ListN.{get_or, length-replicate}
use lib.Dec.{eqb}
use Rattle.model.specs.Board.{unmarked}
use Rattle.model.specs.Sums.{Set, some_up_to}
use Rattle.model.specs.Components.{label}
use Rattle.theory.proofs.Components.{labels_cong}
use Rattle.union_find.specs.Joining.{same_root, Mirrors}
use Rattle.decoder.specs.declared.book.Book.{Book}
use Rattle.decoder.specs.Gains.{listed, with_listed}
use Rattle.decoder.specs.TreeLabels.{BothRooted}
use Rattle.decoder.specs.Rings.{Rings, BothNamed, JoinsRings}
use Rattle.decoder.specs.Books.{parents_by, lows_of, Good, together, KeepsTrue, BothKept, Unites, FusesListed}
use Rattle.decoder.proofs.RingLaws.{rings_united}
use Rattle.theory.proofs.MarksAside.{unmarked_inside}
use Rattle.theory.proofs.JoinedLabels.{joined_by, Adds, added_edge}

pub fuse_none : (b : Book) (ends filled : List ℕ) → Good b → FusesListed b ends filled 0 b
unfolding some_up_to
fuse_none b ends filled good =
    record {
      good = good;
      vertices = refl;
      each = λ m opened F lent small mirrors.
          rw (labels_cong (unmarked b.vertices m ends opened) (with_listed F 0 filled) F (λ e h. or-false (F e))) mirrors;
      true_still = record { figures = λ B S s q h. h };
    }

-- what fusing says of roots, said of labels
mirrored : {n : ℕ} {p l : List ℕ} → Mirrors n p l → (u v x y : ℕ) → u < n → v < n → x < n → y < n
    → (same_root p u v || ((same_root p u x || same_root p u y) && (same_root p v x || same_root p v y))) ≡ joined_by (label l x) (label l y) (label l u) (label l v)
mirrored m u v x y hu hv hx hy = rw (m.same u v hu hv, m.same u x hu hx, m.same u y hu hy, m.same v x hv hx, m.same v y hv hy)

-- from book to book
pub keeps_on : (a b c : Book) → b.vertices ≡ a.vertices → KeepsTrue a b → KeepsTrue b c → KeepsTrue a c
keeps_on a b c same one two = record { figures = λ B S s q h. two.figures B S s (q ∙ sym same) (one.figures B S s q h) }

module _ (b : Book) (ends filled : List ℕ) (k : ℕ) (now : Book) (w : FusesListed b ends filled k now) where
  -- the set with one more listed edge
  adds : (m : ℕ) (opened : List ℕ) (F : Set) → get_or filled k 0 < m → Adds (unmarked b.vertices m ends opened) (with_listed F k filled) (get_or filled k 0) (with_listed F (suc k) filled)
  unfolding some_up_to
  adds m opened F h = record { edge = omega (arith, length-replicate {A = ℕ} m 0); each = λ i l. sym (or_assoc (F i) (listed k filled i) (eqb (get_or filled k 0) i)) }

  -- the next listed edge's ends as one
  pub fuse_next : (x y : ℕ) (after : Book) → x ≡ get_or ends (2 * get_or filled k 0) 0 → y ≡ get_or ends (2 * get_or filled k 0 + 1) 0 → Unites now x y after
      → FusesListed b ends filled (suc k) after
  fuse_next x y after p q f =
      record {
        good = f.good;
        vertices = f.vertices ∙ w.vertices;
        each = λ m opened F lent small mirrors.
            let e = small k (le_refl _) in
            let old = w.each m opened F lent (λ i h. small i (omega arith)) mirrors in
            let a : x < b.vertices = omega (arith, lent.first_in_range (get_or filled k 0) e) in
            let c : y < b.vertices = omega (arith, lent.second_in_range (get_or filled k 0) e) in
            record {
              same = λ u v hu hv.
                  f.one u v (omega (arith, w.vertices)) (omega (arith, w.vertices))
                  ∙ mirrored old u v x y hu hv a c
                  ∙ rw (p, q)
                  (sym (added_edge (unmarked b.vertices m ends opened) (unmarked_inside lent) (with_listed F k filled) (get_or filled k 0) (with_listed F (suc k) filled) (adds m opened F e) u v hu hv));
            };
        true_still = keeps_on b now after w.vertices w.true_still f.true_still;
      }

-- Two vertices of the book

module _ (b : Book) (u v : ℕ) (w : BothKept b u v) where
  pub both_rooted : BothRooted (parents_by b) u v
  both_rooted =
      record {
        vertices = b.vertices;
        rooted = record { size = w.good.packed.size; climbs = w.good.packed.trees.climbs };
        first = w.first;
        second = w.second;
      }

  pub both_named : BothNamed (parents_by b) (lows_of b) u v
  both_named =
      record {
        vertices = b.vertices;
        nameable = record { rooted = record { size = w.good.packed.size; climbs = w.good.packed.trees.climbs }; lows = w.good.lows };
        first = w.first;
        second = w.second;
      }

  -- they were apart: their rings are joined, and then their clusters fused
  pub joined_rings : (t : Bool) → t ≡ not (together b u v) → t ≡ true → (x ring ring' : List ℕ) → JoinsRings (parents_by b) (lows_of b) u v ring ring'
      → (b' : Book) → Unites b u v b' → Rings b.vertices (parents_by b) (lows_of b) x ring
      → Rings b'.vertices (parents_by b') (lows_of b') x ring'
  joined_rings t p q x ring ring' j b' f rings = rw j.exchanges (rings_united b x ring u v b' w.good w.first w.second differ f rings)
    where
      go : (e : Bool) → t ≡ not e → e ≡ false
      go true r = absurd (false≢true (sym r ∙ q))
      go false r = refl

      differ : together b u v ≡ false
      differ = go (together b u v) p
