-- Supports that gain half-edges one after the other, and edges lost one after the other. Assumes nothing.
use Prim.Native.Nat.{ℕ, suc, ◌+◌, ◌≤◌, ◌<◌, min}
use mathlib.Core.Path.{◌≡◌, refl, sym, ap, ap₂, ◌∙◌}
use mathlib.Core.Logic.{◌≢◌}
use mathlib.Core.Bool.{Bool, true, false, cond, not, ◌&&◌, ◌||◌, or-false, or-true, true≢false}
use mathlib.Core.List.{List}
use native.Mathlib.Nat.{not-suc-le-zero}
use native.Mathlib.Decide.{ℕ_discrete}
use native.Mathlib.Numerals.{add-one}
use native.Mathlib.Omega.{arith}
use lib.ListN.{length, get_or, set, length-set}
use lib.Seq.{get_or-set_same, get_or-set_other}
use lib.Dec.{eqb}
use borrow.Author.Tests.{eqb-true, eqb-false, eq-eqb, ne_eqb}
use Rattle.model.specs.Sums.{Set, bit, some_up_to, values}
use Rattle.model.specs.Board.{edge_limit}
use Rattle.model.specs.Growth.{full}
use Rattle.model.proofs.SumLaws.{below_suc, count_cong, count_none, some_cong, some_none}
use Rattle.model.proofs.CountLaws.{count_room, count_more}
use Rattle.model.proofs.ListLaws.{values_are}
use Rattle.decoder.specs.Gains.{Supports, listed, lifted, Raised, Liftable, Lifts}

-- the first k entries are f's, the others are still those of s₀
pub record Filled (f : ℕ → ℕ) (s₀ : List ℕ) (k : ℕ) (s : List ℕ) : Type 0 where
  pub long : length s ≡ length s₀
  pub done : (e : ℕ) → e < k → get_or s e 0 ≡ f e
  pub rest : (e : ℕ) → k ≤ e → get_or s e 0 ≡ get_or s₀ e 0

pub fill_all : (f : ℕ → ℕ) (s₀ : List ℕ) (s : List ℕ) → Filled f s₀ (length s₀) s → s ≡ values (length s₀) f
fill_all f s₀ s w = values_are (length s₀) f s w.long w.done

-- Gains

-- nothing gained yet
pub raised_none : (s filled : List ℕ) → Supports s → length filled ≡ edge_limit → Raised s (λ e. 0) s filled 0
unfolding some_up_to
raised_none s filled w room =
    record {
      long = refl;
      room = room;
      each = λ e h. omega (arith, w.small e h);
      count_is = sym (count_none (length s) (λ e. full s e && not (full s e)) (λ e h. not_both (full s e)));
      edges = λ i h. absurd (not-suc-le-zero h);
      outside = λ i h. absurd (not-suc-le-zero h);
      distinct = λ i j h l. absurd (not-suc-le-zero l);
      becomes_full = λ e h. sym (or-false (full s e));
    }
  where
    not_both : (t : Bool) → (t && not t) ≡ false
    not_both true = refl
    not_both false = refl

-- an edge that was full stays so, whatever it gains
pub raised_cong : {s s' filled : List ℕ} {count : ℕ} (g h : ℕ → ℕ) → ((e : ℕ) → e < length s → full s e ≡ false → g e ≡ h e) → Supports s
    → Raised s g s' filled count → Raised s h s' filled count
raised_cong {s = s} g h same small w =
    record {
      long = w.long;
      room = w.room;
      each = λ e l. w.each e l ∙ go e l (full s e) refl;
      count_is = w.count_is;
      edges = w.edges;
      outside = w.outside;
      distinct = w.distinct;
      becomes_full = w.becomes_full;
    }
  where
    go : (e : ℕ) → e < length s → (t : Bool) → full s e ≡ t → lifted s g e ≡ lifted s h e
    go e l true p = omega (arith, eqb-true (get_or s e 0) 2 p)
    go e l false p = omega (arith, same e l p)

-- One half-edge more

module _ (s₀ : List ℕ) (g : ℕ → ℕ) (s filled : List ℕ) (count : ℕ) (w : Raised s₀ g s filled count) (limit : length s ≤ edge_limit)
    (e : ℕ) (edge : e < length s) where
  -- what has become full
  abbrev fresh : Set
  fresh i = full s i && not (full s₀ i)

  edge₀ : e < length s₀
  edge₀ = omega (arith, w.long)

  small : get_or s e 0 ≤ 2
  small = omega (arith, w.each e edge₀)

  -- an edge that isn't full is not listed, so there is room for it
  room_left : full s e ≡ false → count < edge_limit
  room_left p = omega (arith, w.count_is, w.long, count_room (length s₀) e fresh edge₀ (ap (λ t. t && not (full s₀ e)) p))

  pub liftable : Liftable s e count
  liftable = record { edge = edge; small = small; room = room_left }

  -- the supports then
  abbrev after : List ℕ
  after = set s e (min 2 (get_or s e 0 + 1))

  full_other : (i : ℕ) → i ≢ e → full after i ≡ full s i
  full_other i q = ap (λ x. eqb x 2) (get_or-set_other s e i (min 2 (get_or s e 0 + 1)) 0 q)

  here : get_or after e 0 ≡ min 2 (get_or s e 0 + 1)
  here = get_or-set_same s e (min 2 (get_or s e 0 + 1)) 0 edge

  gained : (i : ℕ) → i < length s₀ → get_or after i 0 ≡ lifted s₀ (λ j. g j + bit (eqb e j)) i
  gained i h = elim (ℕ_discrete e i) [
    | yes q ↦ rw (sym q) (rw (eq-eqb e e refl) (omega (arith, here, w.each e edge₀)))
    | no q ↦ rw (ne_eqb e i q) (omega (arith, get_or-set_other s e i (min 2 (get_or s e 0 + 1)) 0 (λ r. q (sym r)), w.each i h))
  ]

  -- it does not become full
  lift_other : get_or s e 0 ≢ 1 → Raised s₀ (λ i. g i + bit (eqb e i)) after filled count
  lift_other p =
      record {
        long = simp length-set w.long;
        room = w.room;
        each = gained;
        count_is = w.count_is
            ∙ sym (count_cong (length s₀) (λ i. full after i && not (full s₀ i)) fresh (λ i h. ap (λ t. t && not (full s₀ i)) (same i)));
        edges = w.edges;
        outside = w.outside;
        distinct = w.distinct;
        becomes_full = λ i h. same i ∙ w.becomes_full i h;
      }
    where
      same_here : (t : Bool) → full s e ≡ t → full after e ≡ t
      same_here true q = eq-eqb (get_or after e 0) 2 (omega (arith, here, eqb-true (get_or s e 0) 2 q))
      same_here false q = ne_eqb (get_or after e 0) 2 (λ r. omega (arith, here, small, p, eqb-false (get_or s e 0) 2 q))

      same : (i : ℕ) → full after i ≡ full s i
      same i = elim (ℕ_discrete i e) [ yes q ↦ rw q (same_here (full s e) refl) | no q ↦ full_other i q ]

  -- it becomes full, and is listed
  lift_full : get_or s e 0 ≡ 1 → Raised s₀ (λ i. g i + bit (eqb e i)) after (set filled count e) (suc count)
  unfolding some_up_to
  lift_full p =
      record {
        long = simp length-set w.long;
        room = simp length-set w.room;
        each = gained;
        count_is = ap suc w.count_is ∙ sym (count_more (length s₀) e fresh (λ i. full after i && not (full s₀ i)) edge₀
            (ap (λ t. t && not (full s₀ e)) was_not) (ap₂ (λ t u. t && not u) is_full never) (λ i q. ap (λ t. t && not (full s₀ i)) (full_other i q)));
        edges = λ i h. below_suc count i h (λ m. rw (earlier i m) (w.edges i m)) (λ q. rw (q, added) edge₀);
        outside = λ i h. below_suc count i h (λ m. rw (earlier i m) (w.outside i m)) (λ q. rw (q, added) never);
        distinct = λ i j h l. below_suc count j l
            (λ m. rw (earlier i (omega arith), earlier j m) (w.distinct i j h m))
            (λ q. rw (q, added, earlier i (omega arith)) (other i (omega arith)));
        becomes_full = λ i h. elim (ℕ_discrete i e) [
          | yes q ↦ rw q (is_full ∙ sym (ap (λ t. full s₀ e || t) listed_now ∙ or-true (full s₀ e)))
          | no q ↦ full_other i q ∙ w.becomes_full i h ∙ sym (ap (λ t. full s₀ i || t) (listed_other i q))
        ];
      }
    where
      was_not : full s e ≡ false
      was_not = ne_eqb (get_or s e 0) 2 (λ q. omega arith)

      is_full : full after e ≡ true
      is_full = eq-eqb (get_or after e 0) 2 (omega (arith, here))

      neither : (a b : Bool) → (a || b) ≡ false → (a ≡ false) × (b ≡ false)
      neither true b q = absurd (true≢false q)
      neither false b q = (refl, q)

      apart : (full s₀ e ≡ false) × (listed count filled e ≡ false)
      apart = neither (full s₀ e) (listed count filled e) (sym (w.becomes_full e edge₀) ∙ was_not)

      never : full s₀ e ≡ false
      never = apart.0

      unlisted : listed count filled e ≡ false
      unlisted = apart.1

      other : (i : ℕ) → i < count → get_or filled i 0 ≢ e
      other i m = eqb-false (get_or filled i 0) e (some_none count (λ k. eqb (get_or filled k 0) e) unlisted i m)

      earlier : (i : ℕ) → i < count → get_or (set filled count e) i 0 ≡ get_or filled i 0
      earlier i m = get_or-set_other filled count i e 0 (λ q. omega arith)

      added : get_or (set filled count e) count 0 ≡ e
      added = get_or-set_same filled count e 0 (omega (arith, room_left was_not, w.room))

      listed_more : (i : ℕ) → listed (suc count) (set filled count e) i ≡ (listed count filled i || eqb e i)
      listed_more i =
          ap₂ ◌||◌ (some_cong count (λ j. eqb (get_or (set filled count e) j 0) i) (λ j. eqb (get_or filled j 0) i) (λ j m. ap (λ y. eqb y i) (earlier j m)))
          (ap (λ y. eqb y i) added)

      listed_now : listed (suc count) (set filled count e) e ≡ true
      listed_now = listed_more e ∙ ap (λ t. listed count filled e || t) (eq-eqb e e refl) ∙ or-true (listed count filled e)

      listed_other : (i : ℕ) → i ≢ e → listed (suc count) (set filled count e) i ≡ listed count filled i
      listed_other i q = listed_more i ∙ ap (λ t. listed count filled i || t) (ne_eqb e i (λ r. q (sym r))) ∙ or-false (listed count filled i)

  -- either way
  pub lift_one : {r : ℕ} {s' filled' : List ℕ} → Lifts s filled e count r s' filled' → Raised s₀ (λ i. g i + bit (eqb e i)) s' filled' r
  lift_one {r = r} l = elim (ℕ_discrete (get_or s e 0) 1) [
    | yes q ↦
        let t = eq-eqb (get_or s e 0) 1 q in
        let c : r ≡ suc count = l.counts ∙ ap (λ b. count + bit b) t ∙ add-one count in
        rw (l.support, l.lists ∙ ap (λ b. cond b (set filled count e) filled) t, c) (lift_full q)
    | no q ↦
        let t = ne_eqb (get_or s e 0) 1 q in
        let c : r ≡ count = omega (arith, l.counts, ap bit t) in
        rw (l.support, l.lists ∙ ap (λ b. cond b (set filled count e) filled) t, c) (lift_other q)
  ]
