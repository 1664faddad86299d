-- What the union-find's laws say of the book: finding changes no cluster and nothing that is kept, and fusing makes two of them one, with the
-- figures of both added up. Assumes nothing.
use Prim.Native.Nat.{ℕ, ◌-◌, ◌<◌}
use mathlib.Core.Path.{◌≡◌, refl, sym, ap, ◌∙◌, subst}
use mathlib.Core.Bool.{Bool, true, false, not, ◌&&◌, ◌||◌, or_self, false≢true}
use mathlib.Core.List.{List}
use native.Mathlib.Omega.{arith}
use borrow.Author.Tests.{eqb-true}
use Rattle.model.specs.declared.numbers.Vertex.{Vertex}
use Rattle.union_find.specs.declared.Joined.{Joined}
use Rattle.union_find.specs.declared.Joined.TheVariants.{Hung}
use Rattle.union_find.specs.Trees.{at, root_of, Climbs, RootIs}
use Rattle.union_find.specs.Joining.{joined, sizes_after, Joins, same_root}
use Rattle.union_find.specs.Packed.{root_mark, parents_of, sizes_of, Compresses, Joinable, JoinsIn}
use Rattle.union_find.proofs.Roots.{root_self, root_top, root_inside}
use Rattle.union_find.proofs.Moved.{both_same}
use Rattle.union_find.proofs.Hanging.{hung_parent}
use Rattle.union_find.proofs.Unions.{hung_is, joins_same}
use Rattle.union_find.proofs.Compression.{compressed_roots}
use Rattle.union_find.proofs.Packing.{parents_long, sizes_at, mark_here, packed_compressed, Rejoined, rejoined}
use Rattle.decoder.specs.declared.book.Book.{Book}
use Rattle.decoder.specs.declared.book.Found.{Found}
use Rattle.decoder.specs.Figures.{names}
use Rattle.decoder.specs.Merging.{figures_after, Mergeable}
use Rattle.decoder.specs.Books.{parents_by, lows_of, Good, together, own_labels, KeepsTrue, Kept, Finds, BothKept, Unites, Fuses}
use Rattle.decoder.proofs.NameLaws.{names_kept, lows_kept}
use Rattle.decoder.proofs.Uniting.{United, mergeable, united}

-- a path compressed, and the root at its end
pub finds : (b : Book) (v : ℕ) (t : List ℕ) (root : Vertex) → Kept b v → Compresses b.tree v root.0 t
    → root.0 ≡ root_of (parents_by b) v
    → Finds b v (record { book = record { vertices = b.vertices; tree = t; figure = b.figure }; root = root })
finds b v t root k w is =
    record {
      good = record {
        packed = packed_compressed top w k.good.packed;
        lows = lows_kept b.vertices (parents_by b) (parents_of t) (lows_of b) same k.good.lows;
        figures_long = k.good.figures_long;
      };
      vertices = refl;
      sizes = w.roots;
      figures = refl;
      roots = same;
      root = is;
      compressed = rw is at w.parents;
    }
  where
    top : RootIs (parents_by b) v root.0
    top =
        record {
          way = record { count = b.vertices; size = k.good.packed.size; climbs = k.good.packed.trees.climbs; vertex = k.vertex };
          root = is;
        }

    same : (u : ℕ) → u < b.vertices → root_of (parents_of t) u ≡ root_of (parents_by b) u
    same = compressed_roots top w.parents k.good.packed.trees.climbs

module _ (b : Book) (x y : ℕ) (k : BothKept b x y) (f g : Found) (one : Finds b x f) (other : Finds f.book y g) where
  same_count : g.book.vertices ≡ b.vertices
  same_count = other.vertices ∙ one.vertices

  same_roots : (u : ℕ) → u < b.vertices → root_of (parents_by g.book) u ≡ root_of (parents_by b) u
  same_roots u h = other.roots u (omega (arith, one.vertices)) ∙ one.roots u h

  first_root : f.root.0 ≡ root_of (parents_by b) x
  first_root = one.root

  second_root : g.root.0 ≡ root_of (parents_by b) y
  second_root = other.root ∙ one.roots y k.second

  climbs : Climbs b.vertices (parents_by b) k.good.packed.size
  climbs = k.good.packed.trees.climbs

  pub first_inside : f.root.0 < g.book.vertices
  first_inside = omega (arith, first_root, same_count, root_inside climbs x k.first)

  pub second_inside : g.root.0 < g.book.vertices
  second_inside = omega (arith, second_root, same_count, root_inside climbs y k.second)

  pub roots_joinable : Joinable g.book.tree f.root.0 g.root.0
  roots_joinable = record { count = g.book.vertices; packed = other.good.packed; first = first_inside; second = second_inside }

  -- a root is its own root
  top : (v : ℕ) → v < b.vertices → root_of (parents_by g.book) (root_of (parents_by b) v) ≡ root_of (parents_by b) v
  top v h = same_roots _ (root_inside climbs v h) ∙ root_self (parents_by b) _ (root_top climbs v h)

  top_first : root_of (parents_by g.book) f.root.0 ≡ root_of (parents_by b) x
  top_first = ap (root_of (parents_by g.book)) first_root ∙ top x k.first

  top_second : root_of (parents_by g.book) g.root.0 ≡ root_of (parents_by b) y
  top_second = ap (root_of (parents_by g.book)) second_root ∙ top y k.second

  -- and has the size that it had
  same_size : (v : ℕ) → v < b.vertices → at (sizes_of g.book.tree) (root_of (parents_by b) v) ≡ at (sizes_of b.tree) (root_of (parents_by b) v)
  same_size v h =
      let r = root_of (parents_by b) v in
      let below = root_inside climbs v h in
      let mark = mark_here b.tree climbs r below (root_top climbs v h) in
      let still = one.sizes r mark in
      sizes_at g.book.tree r (omega (arith, other.good.packed.trees.climbs.parents, parents_long g.book.tree, same_count, below))
      ∙ ap (λ z. z - root_mark) (other.sizes r (rw still mark) ∙ still)
      ∙ sym (sizes_at b.tree r (omega (arith, climbs.parents, parents_long b.tree, below)))

  module _ (j : Joined) (t : List ℕ) (joins : JoinsIn g.book.tree f.root.0 g.root.0 j t) where
    then : Rejoined other.good.packed first_inside second_inside j t
    then = rejoined other.good.packed first_inside second_inside joins

    fused_answer : j ≡ joined (parents_by b) (sizes_of b.tree) x y
    unfolding joined
    fused_answer = joins.answer ∙ rw (top_first, top_second, same_size x k.first, same_size y k.second)

    fused_hung : (child root : Vertex) → j ≡ Hung child root → at (parents_of t) child.0 ≡ root.0
    fused_hung child root q =
        let w = hung_is other.good.packed.trees first_inside second_inside (subst (λ i. Joins (parents_by g.book) other.good.packed.size f.root.0 g.root.0 i (parents_of t) (sizes_after i other.good.packed.size)) q then.joins) in
        ap (λ l. at l child.0) w.parents ∙ hung_parent other.good.packed.trees w.roots

    fused_one : (u v : ℕ) → u < b.vertices → v < b.vertices
        → same_root (parents_of t) u v ≡ (together b u v || ((together b u x || together b u y) && (together b v x || together b v y)))
    fused_one u v hu hv =
        joins_same other.good.packed.trees first_inside second_inside then.joins u v (omega (arith, same_count)) (omega (arith, same_count))
        ∙ rw (same_roots u hu, same_roots v hv, top_first, top_second)

    pub fuse_mergeable : Mergeable j g.book.figure
    fuse_mergeable =
        mergeable g.book.vertices (parents_by g.book) other.good.packed.size g.book.figure other.good.packed.trees other.good.lows
        other.good.figures_long f.root.0 g.root.0 first_inside second_inside j then.joins

    module _ (figure : List ℕ) (merges : figure ≡ figures_after j g.book.figure) where
      abbrev fused : Book
      fused = record { vertices = g.book.vertices; tree = t; figure = figure }

      both : United g.book.vertices (parents_by g.book) other.good.packed.size g.book.figure other.good.packed.trees other.good.lows other.good.figures_long (parents_of t) figure
      both =
          united g.book.vertices (parents_by g.book) other.good.packed.size g.book.figure other.good.packed.trees other.good.lows
          other.good.figures_long f.root.0 g.root.0 first_inside second_inside j then.joins merges

      -- the two finds change no name
      same_names : names g.book.vertices (parents_by g.book) (lows_of g.book) ≡ own_labels b
      same_names =
          rw (other.figures ∙ one.figures, same_count) (names_kept b.vertices (parents_by b) (parents_by g.book) (lows_of b) same_roots)

      still_true : KeepsTrue b fused
      still_true =
          record {
            figures = λ B S z q h.
                both.true_still B S z (q ∙ sym same_count) (rw (same_names, other.figures ∙ one.figures) h);
          }

      pub fuses : Fuses b x y (record { book = fused; joined = j })
      fuses =
          record {
            answer = fused_answer;
            hung = fused_hung;
            unites = record {
              good = record { packed = then.packed; lows = both.lows; figures_long = both.figures_long };
              vertices = same_count;
              one = fused_one;
              true_still = still_true;
            };
          }

-- Two vertices of one tree are fused already
united_already : (b : Book) (x y : ℕ) → Good b → root_of (parents_by b) x ≡ root_of (parents_by b) y → Unites b x y b
united_already b x y good is =
    record {
      good = good;
      vertices = refl;
      one = λ u v hu hv.
          both_same (root_of (parents_by b) y) (root_of (parents_by b) u) (root_of (parents_by b) v)
          ∙ rw (is, or_self (together b u y), or_self (together b v y));
      true_still = record { figures = λ B S z q h. h };
    }

pub united_together : (b : Book) (x y : ℕ) (t : Bool) → Good b → t ≡ not (together b x y) → t ≡ false → Unites b x y b
united_together b x y t good p q = go (together b x y) refl p
  where
    go : (e : Bool) → together b x y ≡ e → t ≡ not e → Unites b x y b
    go true same r = united_already b x y good (eqb-true (root_of (parents_by b) x) (root_of (parents_by b) y) same)
    go false differ r = absurd (false≢true (sym q ∙ r))
