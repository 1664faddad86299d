-- The identified board (model, Identified), on which all open vertices are one and none is open. A set is closed there exactly where it is
-- closed on the board, and winds where it winds; what is connected on the board is connected there; and where no open vertex grows, the
-- supports grow alike. So laws of boards without open vertices serve for all boards.
-- Assumes nothing.
use Prim.Native.Nat.{ℕ, zero, suc, ◌+◌, ◌*◌, ◌<◌, min}
use mathlib.Core.Path.{◌≡◌, refl, sym, ap, ap₂, ◌∙◌, subst}
use mathlib.Core.Bool.{Bool, true, false, cond, not, ◌&&◌, and-false, true≢false}
use mathlib.Core.List.{List}
use mathlib.Core.Option.{Option, none, some}
use native.Mathlib.Omega.{arith}
use borrow.Author.Tests.{eqb-true, eqb-false, ne_eqb}
use lib.ListN.{length, get_or}
use lib.Dec.{eqb}
use Rattle.std.proofs.lemmas.Bool.{false_from_ne_true}
use Rattle.std.specs.Cmp.{both_ways}
use Rattle.model.specs.Sums.{Set, ◌⊕◌, bit, odd_up_to, first_up_to}
use Rattle.model.specs.Board.{Board, Inside, Valid, edges, first_end, second_end, is_open}
use Rattle.model.specs.Syndrome.{meets, odd_end, syndrome}
use Rattle.model.specs.Winding.{closed, crossings, winds, size}
use Rattle.model.specs.Growth.{swell}
use Rattle.model.specs.Demand3.{EveryLoopAbove}
use Rattle.model.specs.Distance.{fewest_from, fewest_where, fewest, lesser, with}
use Rattle.model.specs.Identified.{or_zero, gate, glued, glued_ends, identified}
use Rattle.model.specs.Outcomes.{ShowsLoop}
use Rattle.model.proofs.SumLaws.{odd_cong, odd_none, First, first_found, none_first}
use Rattle.model.proofs.ListLaws.{length_values, get_d_values, values_cong}
use Rattle.model.proofs.OpenBytes.{zeros_valid}
use Rattle.theory.proofs.OddMembers.{odd_one}
use Rattle.theory.proofs.Syndromes.{cut, Avoids, Sealed, without_open_sealed, sealed_ends, shut_syndrome, open_syndrome, even_closed}
use Rattle.theory.proofs.CrossedLines.{Closed, closed_true, true_closed}
use Rattle.theory.proofs.Connected.{Connected, alone, along, back, chain}

-- no vertex of it is open
pub identified_sealed : (B : Board) → Sealed (identified B)
identified_sealed B = without_open_sealed B.vertices (glued_ends B) B.marks

module _ (B : Board) where
  -- where some vertex is open, the gate is the smallest such
  pub gate_first : (v : ℕ) → v < B.vertices → is_open B v ≡ true → First B.vertices (is_open B) (gate B)
  unfolding gate
  gate_first v h p = go (first_up_to B.vertices (is_open B)) refl
    where
      go : (o : Option ℕ) → first_up_to B.vertices (is_open B) ≡ o → First B.vertices (is_open B) (or_zero o)
      go none q = absurd (true≢false (sym p ∙ none_first B.vertices (is_open B) q v h))
      go (some x) q = first_found B.vertices (is_open B) x q

  pub glued_shut : (v : ℕ) → is_open B v ≡ false → glued B v ≡ v
  glued_shut v p = rw p

  pub glued_below : (v : ℕ) → v < B.vertices → glued B v < B.vertices
  glued_below v h = go (is_open B v) refl
    where
      go : (t : Bool) → is_open B v ≡ t → cond t (gate B) v < B.vertices
      go true p = (gate_first v h p).less
      go false p = h

  -- at a vertex that is not open nothing else arrives, and at an open one but the gate nothing at all
  glued_there : (u v : ℕ) → u < B.vertices → is_open B v ≡ false → eqb (glued B u) v ≡ eqb u v
  glued_there u v h q = go (is_open B u) refl
    where
      differ : (x : ℕ) → is_open B x ≡ true → eqb x v ≡ false
      differ x p = ne_eqb x v (λ e. true≢false (sym p ∙ ap (is_open B) e ∙ q))

      go : (t : Bool) → is_open B u ≡ t → eqb (cond t (gate B) u) v ≡ eqb u v
      go true p = differ (gate B) (gate_first u h p).holds ∙ sym (differ u p)
      go false p = refl

  glued_away : (u v : ℕ) → is_open B v ≡ true → (gate B ≡ v → ⊥) → eqb (glued B u) v ≡ false
  glued_away u v q apart = go (is_open B u) refl
    where
      go : (t : Bool) → is_open B u ≡ t → eqb (cond t (gate B) u) v ≡ false
      go true p = ne_eqb (gate B) v apart
      go false p = ne_eqb u v (λ e. true≢false (sym q ∙ ap (is_open B) (sym e) ∙ p))

module _ (B : Board) (r : Inside B) where
  first_glued : (e : ℕ) → e < edges B → first_end (identified B) e ≡ glued B (first_end B e)
  first_glued e h = get_d_values (length B.ends) (λ i. glued B (get_or B.ends i 0)) (2 * e) 0 (omega (arith, r.two_ends))

  second_glued : (e : ℕ) → e < edges B → second_end (identified B) e ≡ glued B (second_end B e)
  second_glued e h = get_d_values (length B.ends) (λ i. glued B (get_or B.ends i 0)) (2 * e + 1) 0 (omega (arith, r.two_ends))

  pub identified_inside : Inside (identified B)
  identified_inside =
      record {
        vertices_limited = r.vertices_limited;
        edges_limited = r.edges_limited;
        two_ends = length_values (length B.ends) (λ i. glued B (get_or B.ends i 0)) ∙ r.two_ends;
        first_in_range = λ e h. rw (first_glued e h) (glued_below B (first_end B e) (r.first_in_range e h));
        second_in_range = λ e h. rw (second_glued e h) (glued_below B (second_end B e) (r.second_in_range e h));
      }

  pub identified_valid : Valid B → Valid (identified B)
  identified_valid w =
      record {
        some_vertex = w.some_vertex;
        inside = identified_inside;
        mark_in_range = w.mark_in_range;
        open_bytes = zeros_valid B.vertices;
      }

  -- Closed sets

  module _ (D : Set) where
    -- the odd ends that are not open stay
    same_ends : (v : ℕ) → is_open B v ≡ false → odd_end (identified B) D v ≡ odd_end B D v
    unfolding odd_end
    same_ends v p =
        odd_cong (edges B) (λ e. D e && meets (identified B) e v) (λ e. D e && meets B e v)
        (λ e h. ap (λ t. D e && t) (ap₂ ◌⊕◌
        (ap (λ x. eqb x v) (first_glued e h) ∙ glued_there B (first_end B e) v (r.first_in_range e h) p)
        (ap (λ x. eqb x v) (second_glued e h) ∙ glued_there B (second_end B e) v (r.second_in_range e h) p)))

    -- at an open vertex but the gate there is no end
    no_ends : (v : ℕ) → is_open B v ≡ true → (gate B ≡ v → ⊥) → odd_end (identified B) D v ≡ false
    unfolding odd_end
    no_ends v p apart =
        odd_none (edges B) (λ e. D e && meets (identified B) e v)
        (λ e h. ap (λ t. D e && t) (ap₂ ◌⊕◌
        (ap (λ x. eqb x v) (first_glued e h) ∙ glued_away B (first_end B e) v p apart)
        (ap (λ x. eqb x v) (second_glued e h) ∙ glued_away B (second_end B e) v p apart)) ∙ and-false (D e))

    -- all degrees add up to an even number
    even_in_all : odd_up_to B.vertices (λ v. odd_end (identified B) D v) ≡ false
    even_in_all = cut (identified B) identified_inside (λ v. true) D ∙ odd_none (edges B) (λ e. D e && false) (λ e h. and-false (D e))

    -- so where all other ends are even, the gate is
    pub closed_identified : Closed B D → Closed (identified B) D
    closed_identified c = even_closed (identified B) D (record { at = λ v h. at v h (is_open B v) refl })
      where
        shut : (v : ℕ) → v < B.vertices → is_open B v ≡ false → odd_end (identified B) D v ≡ false
        shut v h p = same_ends v p ∙ sym (shut_syndrome B D v p) ∙ c.at v h

        other : (v : ℕ) → v < B.vertices → (gate B ≡ v → ⊥) → (t : Bool) → is_open B v ≡ t → odd_end (identified B) D v ≡ false
        other v h apart true p = no_ends v p apart
        other v h apart false p = shut v h p

        gated : (v : ℕ) → v < B.vertices → is_open B v ≡ true → odd_end (identified B) D (gate B) ≡ false
        gated v h p =
            sym (odd_one B.vertices (gate B) (odd_end (identified B) D) (gate_first B v h p).less (λ i k apart. other i k apart (is_open B i) refl))
            ∙ even_in_all

        here : (v : ℕ) → v < B.vertices → is_open B v ≡ true → (t : Bool) → eqb (gate B) v ≡ t → odd_end (identified B) D v ≡ false
        here v h p true q = subst (λ x. odd_end (identified B) D x ≡ false) (eqb-true (gate B) v q) (gated v h p)
        here v h p false q = no_ends v p (eqb-false (gate B) v q)

        at : (v : ℕ) → v < B.vertices → (t : Bool) → is_open B v ≡ t → odd_end (identified B) D v ≡ false
        at v h true p = here v h p (eqb (gate B) v) refl
        at v h false p = shut v h p

    pub identified_closed : Closed (identified B) D → Closed B D
    identified_closed c = record { at = λ v h. at v h (is_open B v) refl }
      where
        at : (v : ℕ) → v < B.vertices → (t : Bool) → is_open B v ≡ t → syndrome B D v ≡ false
        at v h true p = open_syndrome B D v p
        at v h false p =
            shut_syndrome B D v p ∙ sym (same_ends v p) ∙ (sealed_ends (identified B) (identified_sealed B) D (λ v. false) c).at v h

    -- a set winds on it exactly where it winds on the board: it has the board's marks
    pub winds_identified : winds (identified B) D ≡ winds B D
    unfolding winds crossings
    winds_identified =
        ap (λ t. t && not (eqb (crossings B D) 0))
        (both_ways (closed (identified B) D) (closed B D)
        (λ p. closed_true B D (identified_closed (true_closed (identified B) D p)))
        (λ p. closed_true (identified B) D (closed_identified (true_closed B D p))))

  pub above_identified : (k : ℕ) → EveryLoopAbove B k → EveryLoopAbove (identified B) k
  above_identified k w = record { above = λ D p. w.above D (sym (winds_identified D) ∙ p) }

  -- The distance

  fewest_from_lem : (k : ℕ) (D : Set) → fewest_from (identified B) (winds (identified B)) k D ≡ fewest_from B (winds B) k D
  unfolding fewest_from
  fewest_from_lem zero D = ap (λ t. cond t (some (size B D)) none) (winds_identified D)
  fewest_from_lem (suc e) D = ap₂ lesser (fewest_from_lem e D) (fewest_from_lem e (with e D))

  pub fewest_identified : fewest (identified B) ≡ fewest B
  unfolding fewest fewest_where
  fewest_identified = fewest_from_lem (edges B) (λ i. false)

  pub shows_identified : (d : ℕ) (l : List ℕ) → ShowsLoop (identified B) d l → ShowsLoop B d l
  shows_identified d l w =
      record { set = w.set; winding = sym (winds_identified w.set) ∙ w.winding; fewest = w.fewest; written = w.written }

  -- Growth

  pub connected_identified : (F : Set) {u v : ℕ} → Connected B F (edges B) u v → Connected (identified B) F (edges B) (glued B u) (glued B v)
  connected_identified F (alone v) = alone (glued B v)
  connected_identified F (along e h p) =
      subst (λ x. Connected (identified B) F (edges B) x (glued B (second_end B e))) (first_glued e h)
      (subst (Connected (identified B) F (edges B) (first_end (identified B) e)) (second_glued e h) (along e h p))
  connected_identified F (back c) = back (connected_identified F c)
  connected_identified F (chain c d) = chain (connected_identified F c) (connected_identified F d)

  -- where no open vertex grows, the supports grow alike
  pub swell_identified : (s : List ℕ) (R : Set) → Avoids B R → swell (identified B) s R ≡ swell B s R
  unfolding swell
  swell_identified s R w =
      values_cong (edges B) (λ e. min 2 (get_or s e 0 + bit (R (first_end (identified B) e)) + bit (R (second_end (identified B) e))))
      (λ e. min 2 (get_or s e 0 + bit (R (first_end B e)) + bit (R (second_end B e))))
      (λ e h. ap₂ (λ x y. min 2 (get_or s e 0 + bit x + bit y))
      (ap R (first_glued e h) ∙ alike (first_end B e) (r.first_in_range e h)) (ap R (second_glued e h) ∙ alike (second_end B e) (r.second_in_range e h)))
    where
      out : (v : ℕ) → v < B.vertices → is_open B v ≡ true → R v ≡ false
      out v h p = false_from_ne_true (R v) (λ q. true≢false (sym p ∙ w.shut v h q))

      alike : (v : ℕ) → v < B.vertices → R (glued B v) ≡ R v
      alike v h = go (is_open B v) refl
        where
          go : (t : Bool) → is_open B v ≡ t → R (cond t (gate B) v) ≡ R v
          go true p = let f = gate_first B v h p in out (gate B) f.less f.holds ∙ sym (out v h p)
          go false p = refl
