-- What the answer of `join` tells: which root was hung under which, and that exactly two trees became one.
-- Assumes nothing.
use Prim.Native.Nat.{ℕ, ◌≤◌, ◌<◌}
use mathlib.Core.Path.{◌≡◌, refl, sym, ap, ap₂, ◌∙◌}
use mathlib.Core.Logic.{◌⊎◌, inl, inr, ⊎_elim}
use mathlib.Core.Bool.{Bool, true, false, ◌&&◌, ◌||◌, or_comm, or_self}
use mathlib.Core.List.{List}
use native.Mathlib.Nat.{le_of_lt}
use borrow.Author.Tests.{eqb-true, eqb-false, ltb-true, ltb-false}
use lib.Dec.{eqb, ltb}
use Rattle.model.specs.declared.numbers.Vertex.{Vertex}
use Rattle.model.proofs.Contradiction.{zero_one}
use Rattle.union_find.specs.declared.Joined.{Joined}
use Rattle.union_find.specs.declared.Joined.TheVariants.{Hung, Already}
use Rattle.union_find.specs.Trees.{at, root_of, Trees, TwoRoots, hung, grown}
use Rattle.union_find.specs.Joining.{Joins, joined, joined_by, same_root}
use Rattle.union_find.proofs.Roots.{root_top, root_inside}
use Rattle.union_find.proofs.Moved.{both_same, moved_same}
use Rattle.union_find.proofs.Hanging.{two_swapped, hung_root}

-- a tree was hung: the two roots are those of a and b, the one hung of the smaller tree
pub record Hung_is (n : ℕ) (p s : List ℕ) (a b x y : ℕ) (p' s' : List ℕ) : Type 0 where
  pub roots : TwoRoots n p x y
  pub of_ends : ((x ≡ root_of p a) × (y ≡ root_of p b)) ⊎ ((x ≡ root_of p b) × (y ≡ root_of p a))
  pub smaller : at s x ≤ at s y
  pub parents : p' ≡ hung p x y
  pub sizes : s' ≡ grown s x y

-- nothing was hung: a and b have one root
pub record Already_is (p s : List ℕ) (a b : ℕ) (p' s' : List ℕ) : Type 0 where
  pub one_root : root_of p a ≡ root_of p b
  pub parents : p' ≡ p
  pub sizes : s' ≡ s

apart_answers : {A : Type 0} {x y z : Vertex} → Hung x y ≡ Already z → A
apart_answers p = zero_one (cc)

module _ {n : ℕ} {p s : List ℕ} {a b : ℕ} (t : Trees n p s) (ha : a < n) (hb : b < n) where
  ends_roots : eqb (root_of p a) (root_of p b) ≡ false → TwoRoots n p (root_of p a) (root_of p b)
  ends_roots differ =
      record {
        x_inside = root_inside t.climbs a ha;
        y_inside = root_inside t.climbs b hb;
        x_root = root_top t.climbs a ha;
        y_root = root_top t.climbs b hb;
        apart = eqb-false _ _ differ;
      }

  pub hung_is : {x y : Vertex} {p' s' : List ℕ} → Joins p s a b (Hung x y) p' s' → Hung_is n p s a b x.0 y.0 p' s'
  unfolding joined
  hung_is {x} {y} {p'} {s'} k = go (eqb ra rb) refl (ltb (at s ra) (at s rb)) refl k.answer
    where
      ra : ℕ
      ra = root_of p a

      rb : ℕ
      rb = root_of p b

      go : (e : Bool) → eqb ra rb ≡ e → (l : Bool) → ltb (at s ra) (at s rb) ≡ l
          → Hung x y ≡ joined_by e l ra rb
          → Hung_is n p s a b x.0 y.0 p' s'
      go true same l less q = apart_answers q
      go false differ true less q =
          let w = ends_roots differ in
          let is_x : x ≡ record { 0 = ra } = cc in
          let is_y : y ≡ record { 0 = rb } = cc in
          record {
            roots = rw (is_x, is_y) w;
            of_ends = inl (ap (λ z. z.0) is_x, ap (λ z. z.0) is_y);
            smaller = rw (is_x, is_y) (le_of_lt (ltb-true _ _ less));
            parents = k.parents;
            sizes = k.sizes;
          }
      go false differ false less q =
          let w = ends_roots differ in
          let is_x : x ≡ record { 0 = rb } = cc in
          let is_y : y ≡ record { 0 = ra } = cc in
          record {
            roots = rw (is_x, is_y) (two_swapped w);
            of_ends = inr (ap (λ z. z.0) is_x, ap (λ z. z.0) is_y);
            smaller = rw (is_x, is_y) (ltb-false _ _ less);
            parents = k.parents;
            sizes = k.sizes;
          }

  pub already_is : {z : Vertex} {p' s' : List ℕ} → Joins p s a b (Already z) p' s' → Already_is p s a b p' s'
  unfolding joined
  already_is {z} {p'} {s'} k = go (eqb ra rb) refl (ltb (at s ra) (at s rb)) k.answer
    where
      ra : ℕ
      ra = root_of p a

      rb : ℕ
      rb = root_of p b

      go : (e : Bool) → eqb ra rb ≡ e → (l : Bool)
          → Already z ≡ joined_by e l ra rb
          → Already_is p s a b p' s'
      go true same l q = record { one_root = eqb-true _ _ same; parents = k.parents; sizes = k.sizes }
      go false differ true q = apart_answers (sym q)
      go false differ false q = apart_answers (sym q)

  -- two vertices have one root exactly where they had before, or each lay in one of the two trees
  pub joins_same : {r : Joined} {p' s' : List ℕ} → Joins p s a b r p' s' → (u v : ℕ) → u < n → v < n
      → same_root p' u v ≡ (same_root p u v || ((same_root p u a || same_root p u b) && (same_root p v a || same_root p v b)))
  joins_same {r = Hung x y} k u v hu hv =
      let w = hung_is k in
      ap (λ l. same_root l u v) w.parents
      ∙ ap₂ eqb (hung_root t w.roots u hu) (hung_root t w.roots v hv)
      ∙ moved_same x.0 y.0 (root_of p u) (root_of p v)
      ∙ ⊎_elim
      (λ e. rw (e.0, e.1))
      (λ e. rw (e.0, e.1, or_comm (same_root p u b) (same_root p u a), or_comm (same_root p v b) (same_root p v a)))
      w.of_ends
  joins_same {r = Already z} k u v hu hv =
      let w = already_is k in
      ap (λ l. same_root l u v) w.parents
      ∙ both_same (root_of p b) (root_of p u) (root_of p v)
      ∙ rw (w.one_root, or_self (same_root p u b), or_self (same_root p v b))
