-- The trees of the forest and the list of its edges, edge by edge: what one more edge adds, and that it leaves what is there. Assumes
-- nothing.
use Prim.Native.Nat.{ℕ, ◌+◌, ◌≤◌, ◌<◌}
use mathlib.Core.Path.{◌≡◌, refl, sym, ap, ◌∙◌}
use mathlib.Core.Logic.{◌≢◌, ◌⊎◌, inl, inr, ⊎_elim}
use mathlib.Core.Bool.{true, false, not, false≢true}
use mathlib.Core.List.{List}
use native.Mathlib.Nat.{le_of_eq, not-suc-le-zero}
use native.Mathlib.Numerals.{add-one}
use native.Mathlib.Decide.{ℕ_discrete}
use native.Mathlib.Omega.{arith}
use borrow.Author.Tests.{eq-eqb, ne_eqb}
use lib.ListN.{length, set, length-set}
use lib.Seq.{get_or-set_same, get_or-set_other}
use lib.Dec.{eqb}
use Rattle.model.specs.Sums.{Set, count_up_to}
use Rattle.model.specs.Board.{Board, EndsWithin, plain, first_end, second_end, vertex_limit}
use Rattle.model.specs.Components.{labels_up_to}
use Rattle.model.specs.Growth.{full}
use Rattle.model.specs.Forest.{forest}
use Rattle.model.proofs.SumLaws.{count_bound, count_none}
use Rattle.model.proofs.CountLaws.{count_in, count_out, count_before, count_room, count_more}
use Rattle.theory.proofs.Components.{labels_length}
use Rattle.theory.proofs.Forests.{forest_is}
use Rattle.union_find.specs.declared.Joined.{Joined}
use Rattle.union_find.specs.Trees.{at, root_of, Trees, TwoRoots, Alone, hung}
use Rattle.union_find.specs.Packed.{parents_of, Packed, EachAlone}
use Rattle.union_find.specs.Joining.{Joins, same_root, Mirrors}
use Rattle.union_find.proofs.Roots.{root_top, root_inside}
use Rattle.union_find.proofs.Hanging.{hung_parent, other_parent}
use Rattle.union_find.proofs.Packing.{alone_packed, packed_alone, rejoined}
use Rattle.union_find.proofs.Subtrees.{under_top, under_hung}
use Rattle.union_find.proofs.Unions.{Hung_is, hung_is, already_is}
use Rattle.union_find.proofs.Labels.{mirrors_alone, mirrors_joined, mirrors_passed}
use Rattle.peeling.specs.Links.{Takes, appended, passed, HungBy, place, Stands, Listed, SpanRoom, Spans}

-- How many vertices hang under another

abbrev pub hangs : List ℕ → Set
hangs p v = not (eqb (at p v) v)

-- none, where each is alone
alone_hangs : {n : ℕ} {p s : List ℕ} → Alone n p s → count_up_to n (hangs p) ≡ 0
alone_hangs {n} {p} a = count_none n (hangs p) (λ v h. ap not (eq-eqb _ _ (a.own v h)))

-- not all of them, where one has a root
some_root : {n : ℕ} {p s : List ℕ} → Trees n p s → (v : ℕ) → v < n → count_up_to n (hangs p) < n
some_root {n} {p} t v h =
    count_room n (root_of p v) (hangs p) (root_inside t.climbs v h) (ap not (eq-eqb _ _ (root_top t.climbs v h)))

-- one more, where a root is hung
hung_hangs : {n : ℕ} {p s : List ℕ} {x y : ℕ} → Trees n p s → TwoRoots n p x y
    → count_up_to n (hangs (hung p x y)) ≡ count_up_to n (hangs p) + 1
hung_hangs {n} {p} {x = x} {y} t w =
    count_more n x (hangs p) (hangs (hung p x y)) w.x_inside (ap not (eq-eqb _ _ w.x_root))
    (ap not (ne_eqb _ _ (λ q. w.apart (sym q ∙ hung_parent t w))))
    (λ v q. ap (λ u. not (eqb u v)) (other_parent t w v q))
    ∙ omega arith

-- The list

-- hanging a root leaves the links
link_hung : {B : Board} {F : Set} {p s : List ℕ} {e z x y : ℕ} → Trees B.vertices p s → TwoRoots B.vertices p x y
    → HungBy B F p e z → HungBy B F (hung p x y) e z
link_hung {p = p} {z = z} {x = x} t w h =
    record {
      in_forest = h.in_forest;
      vertex = h.vertex;
      not_root = λ q. h.not_root (sym (other_parent t w z other) ∙ q);
      end = h.end;
      is_end = h.is_end;
      below = λ u l. under_hung t w z (λ e. h.not_root (ap (at p) e ∙ w.y_root ∙ sym e)) u l ∙ h.below u l;
    }
  where
    other : z ≢ x
    other e = h.not_root (ap (at p) e ∙ w.x_root ∙ sym e)

module _ {B : Board} {F : Set} where
  -- and so the list
  listed_hung : {p s taken links : List ℕ} {n count x y : ℕ} → Trees B.vertices p s → TwoRoots B.vertices p x y
      → Listed B F p taken links n count → Listed B F (hung p x y) taken links n count
  listed_hung t w l =
      record {
        counted = l.counted;
        each = λ e h q. record { edge = (l.each e h q).edge; link = link_hung t w (l.each e h q).link };
      }

  -- an edge that is not in the forest adds nothing
  listed_passed : {p taken links : List ℕ} {n count : ℕ} → forest B F n ≡ false → Listed B F p taken links n count
      → Listed B F p taken links (n + 1) count
  listed_passed {n = n} out l =
      record {
        counted = l.counted ∙ sym (count_out n (forest B F) out);
        each = λ e h q. elim (ℕ_discrete e n) [
          | yes i ↦ absurd (false≢true (sym out ∙ ap (forest B F) (sym i) ∙ q))
          | no i ↦ l.each e (omega arith) q
        ];
      }

  -- an edge that is in it comes next, with its link
  listed_next : {p taken links : List ℕ} {n count x : ℕ} → count < length taken → count < length links → HungBy B F p n x
      → Listed B F p taken links n count → Listed B F p (set taken count n) (set links count x) (n + 1) (count + 1)
  listed_next {p} {taken} {links} {n} {count} {x} room room' w l =
      record {
        counted = omega (arith, l.counted, count_in n (forest B F) w.in_forest);
        each = λ e h q. elim (ℕ_discrete e n) [
          | yes i ↦ rw i here
          | no i ↦ before e (omega arith) q
        ];
      }
    where
      here : Stands B F p (set taken count n) (set links count x) n
      here =
          record {
            edge = rw (sym l.counted) (get_or-set_same taken count n 0 room);
            link = rw (sym l.counted, get_or-set_same links count x 0 room') w;
          }

      before : (e : ℕ) → e < n → forest B F e ≡ true → Stands B F p (set taken count n) (set links count x) e
      before e h q =
          let other : place B F e ≢ count = λ i. omega (arith, i, l.counted, count_before e n (forest B F) h q) in
          record {
            edge = get_or-set_other taken count (place B F e) n 0 other ∙ (l.each e h q).edge;
            link = rw (get_or-set_other links count (place B F e) x 0 other) (l.each e h q).link;
          }

-- Edge k comes to the edges below it

module _ (B : Board) (F : Set) (k : ℕ) {p s : List ℕ} (t : Trees B.vertices p s) (m : Mirrors B.vertices p (labels_up_to B F k))
    (ha : first_end B k < B.vertices) (hb : second_end B k < B.vertices) where
  -- an edge of F is in the forest exactly where its ends are in two trees
  forest_apart : F k ≡ true → forest B F k ≡ not (same_root p (first_end B k) (second_end B k))
  forest_apart taken = forest_is B F k ∙ rw (taken, m.same (first_end B k) (second_end B k) ha hb)

  -- the link that it gets where it hangs x
  link_new : F k ≡ true → {x y : ℕ} {p' s' : List ℕ} → Hung_is B.vertices p s (first_end B k) (second_end B k) x y p' s'
      → HungBy B F (hung p x y) k x
  link_new taken {x} w =
      record {
        in_forest = forest_apart taken ∙ ap not (ne_eqb _ _ apart);
        vertex = w.roots.x_inside;
        not_root = λ q. w.roots.apart (sym q ∙ hung_parent t w.roots);
        end = side.0;
        is_end = side.1;
        below = λ u l.
            under_hung t w.roots x w.roots.apart u l
            ∙ under_top t.climbs x w.roots.x_root u l
            ∙ ap (eqb (root_of p u)) side.2
            ∙ m.same u side.0 l side.3;
      }
    where
      apart : root_of p (first_end B k) ≡ root_of p (second_end B k) → ⊥
      apart q = w.roots.apart (⊎_elim (λ e. e.0 ∙ q ∙ sym e.1) (λ e. e.0 ∙ sym q ∙ sym e.1) w.of_ends)

      side : (c : ℕ) × ((c ≡ first_end B k) ⊎ (c ≡ second_end B k)) × (x ≡ root_of p c) × (c < B.vertices)
      side = ⊎_elim (λ e. (first_end B k, inl refl, e.0, ha)) (λ e. (second_end B k, inr refl, e.0, hb)) w.of_ends

-- The loop over the edges

-- the edges below k are done; each edge in the list hung one vertex
pub record Spanning (vertices : ℕ) (ends support t taken links : List ℕ) (k count : ℕ) : Type 0 where
  pub packed : Packed vertices t
  pub mirrors : Mirrors vertices (parents_of t) (labels_up_to (plain vertices (length support) ends) (full support) k)
  pub listed : Listed (plain vertices (length support) ends) (full support) (parents_of t) taken links k count
  pub hung_count : count ≡ count_up_to vertices (hangs (parents_of t))
  pub edge_room : vertices ≤ length taken
  pub link_room : vertices ≤ length links

pub spanning_start : {vertices : ℕ} {ends support t₀ t taken links : List ℕ} → SpanRoom vertices ends support t₀ taken links
    → EachAlone vertices t → Spanning vertices ends support t taken links 0 0
unfolding count_up_to
spanning_start {vertices} {ends = ends} {support} room a =
    record {
      packed = packed_alone a;
      mirrors = mirrors_alone (plain vertices (length support) ends) (full support) (alone_packed a);
      listed = record { counted = refl; each = λ e h. absurd (not-suc-le-zero h) };
      hung_count = sym (alone_hangs (alone_packed a));
      edge_room = room.edge_room;
      link_room = room.link_room;
    }

module _ {vertices : ℕ} {ends support t taken links : List ℕ} {k count : ℕ} (board : EndsWithin vertices (length support) ends)
    (w : Spanning vertices ends support t taken links k count) (h : k < length support) where
  trees : Trees vertices (parents_of t) w.packed.size
  trees = w.packed.trees

  abbrev B : Board
  B = plain vertices (length support) ends

  -- fewer edges are in the list than there are vertices
  list_room : count < vertices
  list_room = omega (arith, w.hung_count, some_root trees _ (board.first_in_range k h))

  pub take_room : count < vertex_limit
  take_room = omega (arith, list_room, board.vertices_limited)

  first : first_end B k < vertices
  first = board.first_in_range k h

  second : second_end B k < vertices
  second = board.second_in_range k h

  mirrors_next : full support k ≡ true → {j : Joined} {p' s' : List ℕ} → Joins (parents_of t) w.packed.size (first_end B k) (second_end B k) j p' s'
      → Mirrors vertices p' (labels_up_to B (full support) (k + 1))
  mirrors_next is_full i =
      rw (add-one k)
      (mirrors_joined B (full support) k is_full w.mirrors trees (le_of_eq (sym (labels_length B (full support) k))) first second i)

  -- it is not full
  pub spanning_passed : full support k ≡ false → Spanning vertices ends support t taken links (k + 1) count
  spanning_passed out =
      record {
        packed = w.packed;
        mirrors = rw (add-one k) (mirrors_passed B (full support) k out w.mirrors);
        listed = listed_passed (forest_is B (full support) k ∙ rw out) w.listed;
        hung_count = w.hung_count;
        edge_room = w.edge_room;
        link_room = w.link_room;
      }

  -- it is full and taken
  pub spanning_next : {r : ℕ} {t' taken' links' : List ℕ} → full support k ≡ true
      → Takes ends t taken links count k r t' taken' links' → Spanning vertices ends support t' taken' links' (k + 1) r
  spanning_next is_full (appended x y i more edge link) =
      let then = rejoined w.packed first second i in
      let is = hung_is trees first second then.joins in
      rw (more, edge, link)
      (record {
        packed = then.packed;
        mirrors = mirrors_next is_full then.joins;
        listed =
            rw is.parents
            (listed_next (omega (arith, list_room, w.edge_room)) (omega (arith, list_room, w.link_room))
            (link_new B (full support) k trees w.mirrors first second is_full is) (listed_hung trees is.roots w.listed));
        hung_count = rw is.parents (omega (arith, w.hung_count, hung_hangs trees is.roots));
        edge_room = rw (length-set taken count k) w.edge_room;
        link_room = rw (length-set links count x.0) w.link_room;
      })
  spanning_next is_full (passed z i same edge link) =
      let then = rejoined w.packed first second i in
      let is = already_is trees first second then.joins in
      rw (same, edge, link)
      (record {
        packed = then.packed;
        mirrors = mirrors_next is_full then.joins;
        listed =
            rw is.parents
            (listed_passed
            (forest_apart B (full support) k trees w.mirrors first second is_full ∙ ap not (eq-eqb _ _ is.one_root))
            w.listed);
        hung_count = rw is.parents w.hung_count;
        edge_room = w.edge_room;
        link_room = w.link_room;
      })

pub spanning_done : {vertices k count : ℕ} {ends support t taken links : List ℕ} → EndsWithin vertices (length support) ends
    → k ≡ length support → Spanning vertices ends support t taken links k count → Spans vertices ends support count (parents_of t) taken links
spanning_done {vertices} {t = t} board all w =
    record {
      size = w.packed.size;
      trees = w.packed.trees;
      listed = rw all at w.listed;
      limit = omega (arith, w.hung_count, count_bound vertices (hangs (parents_of t)), board.vertices_limited);
    }
