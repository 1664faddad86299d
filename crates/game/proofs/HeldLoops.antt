-- Which sets contain a winding loop (model, `holds_loop`): those that have one among their subsets, which a set has exactly where it winds
-- itself or contains a winding loop without one of its edges. Assumes nothing.
use Prim.Native.Nat.{ℕ, zero, suc, ◌-◌, ◌^◌, ◌<◌}
use mathlib.Core.Path.{◌≡◌, refl, sym, ap, ◌∙◌}
use mathlib.Core.Bool.{Bool, true, false, not, ◌&&◌, ◌||◌, or-true, false≢true, and-true}
use native.Mathlib.Omega.{arith}
use borrow.Author.Tests.{eqb-true}
use lib.Dec.{eqb}
use Rattle.std.proofs.lemmas.Bool.{true_from_ne_false, and_from}
use Rattle.std.specs.Cmp.{both_ways}
use Rattle.model.specs.Sums.{Set, some_up_to}
use Rattle.model.specs.Board.{Board, edges}
use Rattle.model.specs.Winding.{winds}
use Rattle.model.specs.Distance.{with}
use Rattle.model.specs.Words.{bit_of}
use Rattle.model.specs.Game.{loop_from, holds_loop}
use Rattle.model.proofs.Xor.{and_left, and_right}
use Rattle.model.proofs.SumLaws.{some_found, some_none}
use Rattle.theory.proofs.CrossedLines.{winds_cong}
use Rattle.theory.proofs.FewestSets.{Made, made_with, made_without, made_whole}
use Rattle.game.proofs.MaskLaws.{bits_without}

-- D has no edges but those of H
pub record Within (B : Board) (D H : Set) : Type 0 where
  pub at : (e : ℕ) → e < edges B → D e ≡ true → H e ≡ true

-- a winding loop among the edges of H
pub record LoopIn (B : Board) (H : Set) : Type 0 where
  pub loop : Set
  pub within : Within B loop H
  pub winding : winds B loop ≡ true

-- What the search through all subsets finds is one.

reached : (B : Board) (H : Set) (k : ℕ) (D : Set) → Within B D H → loop_from B H k D ≡ true → LoopIn B H
unfolding loop_from
reached B H zero D w p = record { loop = D; within = w; winding = p }
reached B H (suc e) D w p = go (reached B H e D w) (reached B H e (with e D)) (loop_from B H e D) refl (H e) refl p
  where
    more : H e ≡ true → Within B (with e D) H
    more q = record { at = λ i l r. one i l (eqb i e) refl r }
      where
        one : (i : ℕ) → i < edges B → (t : Bool) → eqb i e ≡ t → (t || D i) ≡ true → H i ≡ true
        one i l true s r = ap H (eqb-true i e s) ∙ q
        one i l false s r = w.at i l r

    go : (loop_from B H e D ≡ true → LoopIn B H) → (Within B (with e D) H → loop_from B H e (with e D) ≡ true → LoopIn B H)
        → (a : Bool) → loop_from B H e D ≡ a → (b : Bool) → H e ≡ b → (a || (b && loop_from B H e (with e D))) ≡ true → LoopIn B H
    go first second true q b r s = first q
    go first second false q true r s = second (more r) s
    go first second false q false r s = absurd (false≢true s)

pub loop_found : (B : Board) (H : Set) → holds_loop B H ≡ true → LoopIn B H
unfolding holds_loop
loop_found B H p = reached B H (edges B) (λ i. false) (record { at = λ e l q. absurd (false≢true q) }) p

-- And it finds one where there is one.

found : (B : Board) (H : Set) (k : ℕ) (D E : Set) → Made B k D E → ((i : ℕ) → i < k → E i ≡ true → H i ≡ true) → winds B E ≡ true
    → loop_from B H k D ≡ true
unfolding loop_from
found B H zero D E m w p = winds_cong B D E (λ i h. m.above i (omega arith) h) ∙ p
found B H (suc e) D E m w p = go (λ X n. found B H e X E n (λ i h. w i (omega arith)) p) (E e) refl
  where
    go : ((X : Set) → Made B e X E → loop_from B H e X ≡ true) → (t : Bool) → E e ≡ t
        → (loop_from B H e D || (H e && loop_from B H e (with e D))) ≡ true
    go later true q =
        rw (w e (omega arith) q, later (with e D) (made_with B e D E q m)) (or-true (loop_from B H e D))
    go later false q = rw (later D (made_without B e D E q m))

pub loop_holds : (B : Board) (H : Set) → LoopIn B H → holds_loop B H ≡ true
unfolding holds_loop
loop_holds B H l = found B H (edges B) (λ i. false) l.loop (made_whole B l.loop) l.within.at l.winding

-- a set that has all edges of another contains its loops
pub holds_more : (B : Board) (H G : Set) → Within B H G → holds_loop B H ≡ true → holds_loop B G ≡ true
holds_more B H G w p =
    let l = loop_found B H p in
    loop_holds B G (record { loop = l.loop; within = record { at = λ e h q. w.at e h (l.within.at e h q) }; winding = l.winding })

-- only the edges of the board matter
pub holds_cong : (B : Board) (H G : Set) → ((e : ℕ) → e < edges B → H e ≡ G e) → holds_loop B H ≡ holds_loop B G
holds_cong B H G same =
    both_ways (holds_loop B H) (holds_loop B G)
    (holds_more B H G (record { at = λ e h q. sym (same e h) ∙ q }))
    (holds_more B G H (record { at = λ e h q. same e h ∙ q }))

-- An edge at a time

-- some set with an edge less contains a loop
abbrev pub holds_less : Board → ℕ → Bool
holds_less B x = some_up_to (edges B) (λ e. bit_of x e && holds_loop B (bit_of (x - 2 ^ e)))

module _ (B : Board) (x : ℕ) (within : x < 2 ^ edges B) where
  -- an edge of the set is not of the loop, so that the loop lies in the set without it; or the loop is the set
  less_or_whole : LoopIn B (bit_of x) → holds_less B x ≡ false → winds B (bit_of x) ≡ true
  less_or_whole l none = winds_cong B (bit_of x) l.loop same ∙ l.winding
    where
      m : ℕ
      m = edges B

      left : (e : ℕ) → e < m → bit_of x e ≡ true → l.loop e ≡ false → ⊥
      left e h p q =
          false≢true
          (sym (some_none m (λ e. bit_of x e && holds_loop B (bit_of (x - 2 ^ e))) none e h)
          ∙ and_from (bit_of x e) (holds_loop B (bit_of (x - 2 ^ e))) p
          (loop_holds B (bit_of (x - 2 ^ e))
          (record { loop = l.loop; within = record { at = λ i k r. rest i k r (eqb i e) refl }; winding = l.winding })))
        where
          rest : (i : ℕ) → i < m → l.loop i ≡ true → (t : Bool) → eqb i e ≡ t → bit_of (x - 2 ^ e) i ≡ true
          rest i k r true s = absurd (false≢true (sym q ∙ sym (ap l.loop (eqb-true i e s)) ∙ r))
          rest i k r false s = bits_without m x e within h p i k ∙ ap (λ b. bit_of x i && not b) s ∙ and-true (bit_of x i) ∙ l.within.at i k r

      same : (e : ℕ) → e < m → bit_of x e ≡ l.loop e
      same e h = both_ways (bit_of x e) (l.loop e) (λ p. true_from_ne_false (l.loop e) (λ q. left e h p q)) (l.within.at e h)

  -- a set contains a loop where one with an edge less does, and else exactly where it winds
  pub holds_less_lem : holds_less B x ≡ true → holds_loop B (bit_of x) ≡ true
  holds_less_lem p =
      let s = some_found (edges B) (λ e. bit_of x e && holds_loop B (bit_of (x - 2 ^ e))) p in
      let e = s.at in
      let there = and_left (bit_of x e) (holds_loop B (bit_of (x - 2 ^ e))) s.holds in
      holds_more B (bit_of (x - 2 ^ e)) (bit_of x)
      (record {
        at = λ i h q. and_left (bit_of x i) (not (eqb i e)) (sym (bits_without (edges B) x e within s.less there i h) ∙ q);
      })
      (and_right (bit_of x e) (holds_loop B (bit_of (x - 2 ^ e))) s.holds)

  pub holds_whole : holds_less B x ≡ false → holds_loop B (bit_of x) ≡ winds B (bit_of x)
  holds_whole none =
      both_ways (holds_loop B (bit_of x)) (winds B (bit_of x))
      (λ p. less_or_whole (loop_found B (bit_of x) p) none)
      (λ q. loop_holds B (bit_of x) (record { loop = bit_of x; within = record { at = λ e h r. r }; winding = q }))
