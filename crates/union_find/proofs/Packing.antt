-- Parents and sizes in one array: which of the two stands by a vertex, and that vertices alone, compressed ways and trees hung under others
-- are in the array what they are as parents and sizes. Assumes nothing.
use Prim.Native.Nat.{ℕ, ◌+◌, ◌-◌, ◌≤◌, ◌<◌}
use mathlib.Core.Path.{◌≡◌, refl, sym, ap, ap₂, ◌∙◌}
use mathlib.Core.Logic.{◌≢◌}
use mathlib.Core.Bool.{Bool, true, false}
use mathlib.Core.List.{List}
use native.Mathlib.Decide.{ℕ_discrete}
use native.Mathlib.Omega.{arith}
use borrow.Author.Tests.{ltb-true, ltb-false, eq-eqb, ne_eqb, lt-ltb, le-ltb}
use lib.ListN.{length, set, replicate, length-set, length-replicate, get_or-replicate}
use lib.Seq.{get_or-set_same, get_or-set_other}
use lib.Dec.{eqb, ltb}
use Rattle.model.specs.Board.{vertex_limit}
use Rattle.model.proofs.ListLaws.{length_values, get_d_values, values_are}
use Rattle.union_find.specs.declared.Joined.{Joined}
use Rattle.union_find.specs.declared.Joined.TheVariants.{Hung, Already}
use Rattle.union_find.specs.Trees.{at, root_of, Climbs, Alone, RootIs, TwoRoots, hung, grown}
use Rattle.union_find.specs.Joining.{joined, joined_by, sizes_after, Joins}
use Rattle.union_find.specs.Packed.{root_mark, parent_at, parents_of, sizes_of, Packed, EachAlone, Compresses, hung_in, JoinsIn}
use Rattle.union_find.proofs.Roots.{root_top, root_inside}
use Rattle.union_find.proofs.Fresh.{alone_trees}
use Rattle.union_find.proofs.Compression.{compressed_trees, roots_were}
use Rattle.union_find.proofs.Hanging.{other_parent, hung_parent, hung_trees}
use Rattle.union_find.proofs.Unions.{hung_is}

pub parents_long : (t : List ℕ) → length (parents_of t) ≡ length t
unfolding parents_of
parents_long t = length_values (length t) (parent_at t)

pub parents_at : (t : List ℕ) (v : ℕ) → v < length t → at (parents_of t) v ≡ parent_at t v
unfolding parents_of
parents_at t v h = get_d_values (length t) (parent_at t) v 0 h

pub sizes_at : (t : List ℕ) (v : ℕ) → v < length t → at (sizes_of t) v ≡ at t v - root_mark
unfolding sizes_of
sizes_at t v h = get_d_values (length t) (λ u. at t u - root_mark) v 0 h

-- a size makes a root
marked : (t : List ℕ) (v : ℕ) → root_mark ≤ at t v → parent_at t v ≡ v
marked t v h = rw (le-ltb (at t v) root_mark h)

-- a number that is not its own is a parent
linked : (t : List ℕ) (v : ℕ) → at t v < root_mark → at t v ≢ v → parent_at t v ≡ at t v
linked t v h q = rw (lt-ltb (at t v) root_mark h, ne_eqb (at t v) v q)

-- a parent that is none of these is there to be read
pub link_read : (t : List ℕ) (v : ℕ) → v < length t → at (parents_of t) v ≢ v → at (parents_of t) v < root_mark → at t v ≡ at (parents_of t) v
link_read t v h other small = go (ltb (at t v) root_mark) refl (eqb (at t v) v) refl
  where
    is : at (parents_of t) v ≡ parent_at t v
    is = parents_at t v h

    go : (l : Bool) → ltb (at t v) root_mark ≡ l → (e : Bool) → eqb (at t v) v ≡ e → at t v ≡ at (parents_of t) v
    go false l e q = absurd (other (is ∙ rw l))
    go true l true q =
        let out : at (parents_of t) v ≡ root_mark = is ∙ rw (l, q) in
        absurd (omega (arith, small, out))
    go true l false q = sym (is ∙ rw (l, q))

-- one parent more
pub parents_set : (t : List ℕ) (w r : ℕ) → w < length t → r < root_mark → r ≢ w → parents_of (set t w r) ≡ set (parents_of t) w r
unfolding parents_of
parents_set t w r h small other =
    sym (values_are (length (set t w r)) (parent_at (set t w r)) (set (parents_of t) w r) (simp length-set (parents_long t)) each)
  where
    each : (v : ℕ) → v < length (set t w r) → at (set (parents_of t) w r) v ≡ parent_at (set t w r) v
    each v k = elim (ℕ_discrete v w) [
      | yes e ↦
          rw e
          (let is = get_or-set_same t w r 0 h in
          get_or-set_same (parents_of t) w r 0 (omega (arith, parents_long t))
          ∙ sym (linked (set t w r) w (rw is small) (λ q. other (sym is ∙ q)) ∙ is))
      | no e ↦
          let same = get_or-set_other t w v r 0 e in
          get_or-set_other (parents_of t) w v r 0 e ∙ parents_at t v (simp length-set at k) ∙ rw same
    ]

-- Of the vertices whose ways up end

module _ {n : ℕ} (t : List ℕ) {s : List ℕ} (c : Climbs n (parents_of t) s) (v : ℕ) (h : v < n) where
  inside : v < length t
  inside = omega (arith, c.parents, parents_long t)

  pub root_here : root_mark ≤ at t v → at (parents_of t) v ≡ v
  root_here m = parents_at t v inside ∙ marked t v m

  -- by no vertex stands its own number
  not_own : at t v < root_mark → at t v ≢ v
  not_own m q =
      let out : at (parents_of t) v ≡ root_mark = parents_at t v inside ∙ rw (lt-ltb (at t v) root_mark m, eq-eqb (at t v) v q) in
      omega (arith, out, c.inside v h, c.limit)

  pub parent_here : at t v < root_mark → at (parents_of t) v ≡ at t v
  parent_here m = parents_at t v inside ∙ linked t v m (not_own m)

  pub no_root_here : at t v < root_mark → at (parents_of t) v ≢ v
  no_root_here m q = not_own m (sym (parent_here m) ∙ q)

  pub mark_here : at (parents_of t) v ≡ v → root_mark ≤ at t v
  mark_here q = go (ltb (at t v) root_mark) refl
    where
      go : (b : Bool) → ltb (at t v) root_mark ≡ b → root_mark ≤ at t v
      go true e = absurd (no_root_here (ltb-true (at t v) root_mark e) q)
      go false e = ltb-false (at t v) root_mark e

  pub link_here : at (parents_of t) v ≢ v → at t v < root_mark
  link_here q = go (ltb (at t v) root_mark) refl
    where
      go : (b : Bool) → ltb (at t v) root_mark ≡ b → at t v < root_mark
      go true e = ltb-true (at t v) root_mark e
      go false e = absurd (q (root_here (ltb-false (at t v) root_mark e)))

-- Each alone

pub alone_packed : {n : ℕ} {t : List ℕ} → EachAlone n t → Alone n (parents_of t) (replicate (length t) 1)
alone_packed {n} {t} w =
    record {
      room = record {
        limit = w.fits.limit;
        parents = omega (arith, parents_long t, w.fits.room);
        sizes = omega (arith, length-replicate {A = ℕ} (length t) 1, w.fits.room);
      };
      own = λ v h. parents_at t v (omega (arith, w.fits.room)) ∙ marked t v (omega (arith, w.one v h));
      one = λ v h. get_or-replicate (length t) v 1 0 (omega (arith, w.fits.room));
    }

pub packed_alone : {n : ℕ} {t : List ℕ} → EachAlone n t → Packed n t
packed_alone {n} {t} w =
    record {
      size = replicate (length t) 1;
      trees = alone_trees (alone_packed w);
      told = λ r h q. w.one r h ∙ ap (λ z. root_mark + z) (sym ((alone_packed w).one r h));
    }

-- A way up compressed

pub packed_compressed : {n : ℕ} {t t' : List ℕ} {v r : ℕ} → RootIs (parents_of t) v r → Compresses t v r t' → Packed n t → Packed n t'
packed_compressed {n} {t} {t'} i w k =
    record {
      size = k.size;
      trees = compressed_trees i w.parents k.trees;
      told = λ z h q.
          let was = roots_were i w.parents k.trees.climbs z h q in
          w.roots z (mark_here t k.trees.climbs z h was) ∙ k.told z h was;
    }

-- A tree hung under another

module _ {n : ℕ} {t : List ℕ} (k : Packed n t) {x y : ℕ} (two : TwoRoots n (parents_of t) x y) where
  abbrev p : List ℕ
  p = parents_of t

  abbrev t' : List ℕ
  t' = hung_in t x y

  few : n ≤ vertex_limit
  few = k.trees.climbs.limit

  room : n ≤ length t
  room = omega (arith, k.trees.climbs.parents, parents_long t)

  at_x : at t' x ≡ y
  at_x = get_or-set_same (set t y _) x y 0 (simp length-set (omega (arith, room, two.x_inside)))

  at_y : at t' y ≡ at t y + (at t x - root_mark)
  at_y = get_or-set_other (set t y _) x y y 0 (λ q. two.apart (sym q)) ∙ get_or-set_same t y _ 0 (omega (arith, room, two.y_inside))

  at_other : (v : ℕ) → v ≢ x → v ≢ y → at t' v ≡ at t v
  at_other v a b = get_or-set_other (set t y _) x v y 0 a ∙ get_or-set_other t y v _ 0 b

  mark_y : root_mark ≤ at t y
  mark_y = mark_here t k.trees.climbs y two.y_inside two.y_root

  pub hung_parents : parents_of t' ≡ hung p x y
  unfolding parents_of
  hung_parents = sym (values_are (length t') (parent_at t') (hung p x y) (simp length-set (parents_long t)) each)
    where
      each : (v : ℕ) → v < length t' → at (hung p x y) v ≡ parent_at t' v
      each v h = elim (ℕ_discrete v x) [
        | yes e ↦
            rw e
            (hung_parent k.trees two
            ∙ sym (linked t' x (rw at_x (omega (arith, two.y_inside, few))) (λ q. two.apart (sym (sym at_x ∙ q))) ∙ at_x))
        | no e ↦ other_parent k.trees two v e ∙ (elim (ℕ_discrete v y) [
          | yes i ↦ rw i (two.y_root ∙ sym (marked t' y (rw at_y (omega (arith, mark_y)))))
          | no i ↦
              let same = at_other v e i in
              parents_at t v (simp length-set at h) ∙ rw same
        ])
      ]

  pub packed_hung : Packed n t'
  packed_hung =
      record {
        size = grown k.size x y;
        trees = rw hung_parents (hung_trees k.trees two);
        told = λ r h q. told r h (rw hung_parents at q);
      }
    where
      told : (r : ℕ) → r < n → at (hung p x y) r ≡ r → at t' r ≡ root_mark + at (grown k.size x y) r
      told r h q = elim (ℕ_discrete r y) [
        | yes e ↦
            rw e
            (at_y ∙ omega (
              arith,
              k.told x two.x_inside two.x_root,
              k.told y two.y_inside two.y_root,
              get_or-set_same k.size y (at k.size x + at k.size y) 0 (omega (arith, k.trees.climbs.sizes, two.y_inside)),
            ))
        | no e ↦
            let not-x : r ≢ x = λ i. two.apart (sym (sym (hung_parent k.trees two) ∙ ap (at (hung p x y)) (sym i) ∙ q ∙ i)) in
            at_other r not-x e
            ∙ k.told r h (sym (other_parent k.trees two r not-x) ∙ q)
            ∙ ap (λ z. root_mark + z) (sym (get_or-set_other k.size y r (at k.size x + at k.size y) 0 e))
      ]

-- Two trees joined

module _ {n : ℕ} {t : List ℕ} (k : Packed n t) {a b : ℕ} (ha : a < n) (hb : b < n) where
  -- the array tells a root's size
  size_told : (r : ℕ) → r < n → at (parents_of t) r ≡ r → at (sizes_of t) r ≡ at k.size r
  size_told r h q = sizes_at t r (omega (arith, k.trees.climbs.parents, parents_long t)) ∙ omega (arith, k.told r h q)

  joined_told : joined (parents_of t) (sizes_of t) a b ≡ joined (parents_of t) k.size a b
  unfolding joined
  joined_told =
      let c = k.trees.climbs in
      ap₂ (λ i j. joined_by (eqb (root_of (parents_of t) a) (root_of (parents_of t) b)) (ltb i j) (root_of (parents_of t) a) (root_of (parents_of t) b))
      (size_told _ (root_inside c a ha) (root_top c a ha)) (size_told _ (root_inside c b hb) (root_top c b hb))

  -- parents and sizes after a join, and the array of them
  pub record Rejoined (r : Joined) (t' : List ℕ) : Type 0 where
    pub joins : Joins (parents_of t) k.size a b r (parents_of t') (sizes_after r k.size)
    pub packed : Packed n t'

  pub rejoined : {r : Joined} {t' : List ℕ} → JoinsIn t a b r t' → Rejoined r t'
  rejoined {r = Hung x y} w =
      let same : Joins (parents_of t) k.size a b (Hung x y) (hung (parents_of t) x.0 y.0) (grown k.size x.0 y.0) =
      record { answer = w.answer ∙ joined_told; parents = refl; sizes = refl } in
      let two = (hung_is k.trees ha hb same).roots in
      rw w.after
      (record {
        joins = record { answer = w.answer ∙ joined_told; parents = hung_parents k two; sizes = refl };
        packed = packed_hung k two;
      })
  rejoined {r = Already z} w =
      rw w.after (record { joins = record { answer = w.answer ∙ joined_told; parents = refl; sizes = refl }; packed = k })
