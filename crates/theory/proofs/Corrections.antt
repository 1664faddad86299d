-- The subset of the forest with given odd ends: where every part holds an even number of them it has them, and it is the only subset of the
-- forest that has them.
-- Assumes nothing.
use Prim.Native.Nat.{ℕ, ◌<◌}
use mathlib.Core.Path.{◌≡◌, refl, sym, ap, ap₂, ◌∙◌, subst, fun_ext}
use mathlib.Core.Bool.{Bool, true, false, not, ◌&&◌, and-true, true≢false, false≢true}
use mathlib.Core.List.{List}
use borrow.Author.Tests.{eqb-true, eq-eqb, ne_eqb, not-true}
use lib.Dec.{eqb}
use Rattle.std.proofs.lemmas.Bool.{false_from_ne_true, and_from}
use Rattle.model.specs.Sums.{Set, ◌⊕◌, ones, bytes}
use Rattle.model.specs.Board.{Board, Inside, edges, first_end, second_end}
use Rattle.model.specs.Syndrome.{meets, odd_end, HasOddEnds}
use Rattle.model.specs.Winding.{together}
use Rattle.model.specs.Components.{label, labels, within}
use Rattle.model.specs.Growth.{oddly_lit}
use Rattle.model.specs.Forest.{forest}
use Rattle.model.specs.Correction.{without, odd_side, spanned}
use Rattle.model.proofs.Xor.{xor_self, xor_comm, and_left, and_right}
use Rattle.model.proofs.ListLaws.{ones_bytes}
use Rattle.model.proofs.SumLaws.{odd_cong}
use Rattle.theory.proofs.Totals.{xor_through}
use Rattle.theory.proofs.OddMembers.{odd_one}
use Rattle.theory.proofs.GrowthRun.{EvenlyLit}
use Rattle.theory.proofs.Syndromes.{odd_end_empty, odd_end_edge, odd_end_together, has_ends_cong, cut_ends}
use Rattle.theory.proofs.Connected.{Connected, alone, along, back, chain}
use Rattle.theory.proofs.Components.{connected_part, part_connected, labels_cong}
use Rattle.theory.proofs.Forests.{Within, forest_acyclic}
use Rattle.theory.proofs.Existence.{peeled}

-- Cutting the forest at an edge

-- a set of edges of G whose odd ends are u and v
record Link (B : Board) (G : Set) (u v : ℕ) : Type 0 where
  set : Set
  inside : (e : ℕ) → set e ≡ true → G e ≡ true
  ends : (w : ℕ) → odd_end B set w ≡ eqb u w ⊕ eqb v w

link : (B : Board) (G : Set) {u v : ℕ} → Connected B G (edges B) u v → Link B G u v
link B G (alone v) =
    record { set = λ e. false; inside = λ e p. absurd (false≢true p); ends = λ w. odd_end_empty B w ∙ sym (xor_self (eqb v w)) }
link B G (along e h p) =
    record { set = eqb e; inside = λ i q. subst (λ j. G j ≡ true) (eqb-true e i q) p; ends = λ w. odd_end_edge B true e h w }
link B G (back {u} {v} c) =
    let l = link B G c in
    record { set = l.set; inside = l.inside; ends = λ w. l.ends w ∙ xor_comm (eqb u w) (eqb v w) }
link B G (chain {u} {v} {w} c d) = joined (link B G c) (link B G d)
  where
    joined : Link B G u v → Link B G v w → Link B G u w
    joined k l =
        record {
          set = together k.set l.set;
          inside = λ e p. either e (k.set e) refl p;
          ends = λ x. odd_end_together B k.set l.set x ∙ ap₂ ◌⊕◌ (k.ends x) (l.ends x) ∙ xor_through (eqb u x) (eqb v x) (eqb w x);
        }
      where
        either : (e : ℕ) (t : Bool) → k.set e ≡ t → (t ⊕ l.set e) ≡ true → G e ≡ true
        either e true q p = k.inside e q
        either e false q p = l.inside e p

-- the forest without one of its edges does not connect that edge's ends
cut_apart : (B : Board) → Inside B → (F : Set) (e : ℕ) → e < edges B → forest B F e ≡ true
    → Connected B (without (forest B F) e) (edges B) (first_end B e) (second_end B e) → ⊥
cut_apart B r F e h p c = true≢false (sym here ∙ forest_acyclic B r F (together l.set (eqb e)) inner closed e h)
  where
    l : Link B (without (forest B F) e) (first_end B e) (second_end B e)
    l = link B (without (forest B F) e) c

    either : (i : ℕ) (t : Bool) → l.set i ≡ t → (t ⊕ eqb e i) ≡ true → forest B F i ≡ true
    either i true q s = and_left (forest B F i) (not (eqb i e)) (l.inside i q)
    either i false q s = subst (λ j. forest B F j ≡ true) (eqb-true e i s) p

    inner : Within B (together l.set (eqb e)) (forest B F)
    inner = record { holds = λ i u q. either i (l.set i) refl q }

    closed : HasOddEnds B (together l.set (eqb e)) (λ v. false)
    closed =
        record {
          at = λ v u. odd_end_together B l.set (eqb e) v ∙ ap₂ ◌⊕◌ (l.ends v) (odd_end_edge B true e h v) ∙ xor_self (meets B e v);
        }

    out : l.set e ≡ false
    out =
        false_from_ne_true (l.set e)
        (λ q. true≢false (sym (eq-eqb e e refl) ∙ not-true _ (and_right (forest B F e) (not (eqb e e)) (l.inside e q))))

    here : together l.set (eqb e) e ≡ true
    here = rw (out, eq-eqb e e refl)

-- The subset

-- the bytes of the forest stand for the forest
spanned_is : (B : Board) (F S : Set) (e : ℕ) → spanned B F S e ≡ (forest B F e && odd_side B (without (forest B F) e) S (first_end B e))
unfolding spanned odd_side
spanned_is B F S e =
    ap (λ l. forest B F e && oddly_lit B l S (label l (first_end B e)))
    (labels_cong B (without (ones (bytes (edges B) (forest B F))) e) (without (forest B F) e)
    (λ i h. ap (λ t. t && not (eqb i e)) (ones_bytes (edges B) (forest B F) i h)))

-- only the vertices below the vertex count matter
pub spanned_cong : (B : Board) (F R R' : Set) → ((v : ℕ) → v < B.vertices → R v ≡ R' v) → spanned B F R ≡ spanned B F R'
unfolding spanned odd_side oddly_lit
spanned_cong B F R R' same =
    fun_ext (λ e.
    ap (λ t. forest B F e && t) (side (labels B (without (ones (bytes (edges B) (forest B F))) e)) (first_end B e)))
  where
    side : (l : List ℕ) (u : ℕ) → oddly_lit B l R (label l u) ≡ oddly_lit B l R' (label l u)
    side l u =
        odd_cong B.vertices (λ v. R v && within l (label l u) v) (λ v. R' v && within l (label l u) v)
        (λ v h. ap (λ t. t && within l (label l u) v) (same v h))

pub spanned_in_forest : (B : Board) (F S : Set) → Within B (spanned B F S) (forest B F)
spanned_in_forest B F S = record { holds = λ e h p. and_left (forest B F e) _ (sym (spanned_is B F S e) ∙ p) }

-- a subset of the forest with the odd ends has edge e exactly where the side of its first end is odd: only e can cross the cut
side_odd : (B : Board) → Inside B → (F D S : Set) → Within B D (forest B F) → HasOddEnds B D S → (e : ℕ) → e < edges B
    → forest B F e ≡ true
    → odd_side B (without (forest B F) e) S (first_end B e) ≡ D e
unfolding odd_side oddly_lit
side_odd B r F D S sub has e h p =
    cut_ends B r A D S has ∙ odd_one (edges B) e crossing h (λ i u apart. others i u apart (D i) refl) ∙ itself
  where
    G : Set
    G = without (forest B F) e

    l : List ℕ
    l = labels B G

    A : Set
    A = within l (label l (first_end B e))

    crossing : Set
    crossing i = D i && (A (first_end B i) ⊕ A (second_end B i))

    stays : (i : ℕ) → i < edges B → (e ≡ i → ⊥) → D i ≡ true → G i ≡ true
    stays i u apart q = and_from _ _ (sub.holds i u q) (ap not (ne_eqb i e (λ s. apart (sym s))))

    others : (i : ℕ) → i < edges B → (e ≡ i → ⊥) → (t : Bool) → D i ≡ t → crossing i ≡ false
    others i u apart true q = rw (q, connected_part B G (along i u (stays i u apart q))) (xor_self (A (second_end B i)))
    others i u apart false q = rw q

    itself : crossing e ≡ D e
    itself =
        rw (
          eq-eqb (label l (first_end B e)) (label l (first_end B e)) refl,
          ne_eqb (label l (second_end B e)) (label l (first_end B e))
              (λ q. cut_apart B r F e h p (part_connected B G r (first_end B e) (second_end B e) (r.first_in_range e h) (r.second_in_range e h) (sym q))),
        )
        (and-true (D e))

-- any subset of the forest with these odd ends is the one
pub spanned_unique : (B : Board) → Inside B → (F D S : Set) → Within B D (forest B F) → HasOddEnds B D S → (e : ℕ) → e < edges B
    → D e ≡ spanned B F S e
spanned_unique B r F D S sub has e h = go (forest B F e) refl ∙ sym (spanned_is B F S e)
  where
    go : (t : Bool) → forest B F e ≡ t → D e ≡ (forest B F e && odd_side B (without (forest B F) e) S (first_end B e))
    go true p = rw (p, side_odd B r F D S sub has e h p)
    go false p = rw p (false_from_ne_true (D e) (λ q. false≢true (sym p ∙ sub.holds e h q)))

-- where every part holds an even number of them, it has them
pub spanned_has_ends : (B : Board) → Inside B → (F S : Set) → EvenlyLit B (labels B F) S → HasOddEnds B (spanned B F S) S
spanned_has_ends B r F S even =
    let w = peeled B r F S even in
    has_ends_cong B (spanned B F S) w.set S
    (λ e h. sym (spanned_unique B r F w.set S (record { holds = λ i u q. w.inside i q }) w.has e h)) w.has
