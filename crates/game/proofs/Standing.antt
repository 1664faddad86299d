-- The search over masks and the table plays the game of the model: where masks stand for a position, both find the same. Assumes nothing.
use Prim.Native.Nat.{ℕ, zero, suc, ◌+◌, ◌-◌, ◌^◌, ◌<◌}
use mathlib.Core.Path.{◌≡◌, refl, sym, ap, ◌∙◌}
use mathlib.Core.Bool.{Bool, true, false, cond, ◌&&◌}
use mathlib.Core.List.{List}
use native.Mathlib.Omega.{arith}
use lib.Dec.{eqb}
use lib.ListN.{length}
use Rattle.model.specs.declared.answers.Player.{Player}
use Rattle.model.specs.declared.answers.Player.TheVariants.{Winder, Blocker}
use Rattle.model.specs.declared.answers.Forced.TheVariants.{Waiting}
use Rattle.model.specs.Sums.{ones, first_up_to}
use Rattle.model.specs.Board.{Board, edges}
use Rattle.model.specs.Correction.{without}
use Rattle.model.specs.Words.{bit_of, number_with}
use Rattle.model.specs.Game.{is_free, held_by, taken, wound, forced_by, choosing, winder_to_move, blocker_to_move}
use Rattle.model.proofs.Bits.{eqb_bit}
use Rattle.model.proofs.SumLaws.{first_cong}
use Rattle.theory.proofs.BitLaws.{number_cong, number_bit, number_below}
use Rattle.game.specs.Searching.{wind_from, block_from}
use Rattle.game.specs.LoopTable.{Filled}
use Rattle.game.proofs.MaskLaws.{number_more}
use Rattle.game.proofs.HeldLoops.{holds_cong}
use Rattle.game.proofs.Moves.{taken_long, free_taken, held_here, held_before, held_others}

-- the masks h of Winder's edges and f of the free ones stand for the position p
pub record Stands (m : ℕ) (p : List ℕ) (h f : ℕ) : Type 0 where
  pub long : length p ≡ m
  pub held : h ≡ number_with m (held_by Winder p)
  pub free : f ≡ number_with m (is_free p)

module _ {m : ℕ} {p : List ℕ} {h f : ℕ} (s : Stands m p h f) (e : ℕ) (below : e < m) (free : is_free p e ≡ true) where
  inside : e < length p
  inside = omega (arith, s.long)

  rest : (P : Player) → f - 2 ^ e ≡ number_with m (is_free (taken P e p))
  rest P =
      let less = number_cong m (is_free (taken P e p)) (without (is_free p) e) (λ i l. free_taken P p e inside free i) in
      omega (arith, s.free, number_more m e (is_free p) below free, less)

  -- after a move of Winder's, of Blocker's
  pub winder_stands : Stands m (taken Winder e p) (h + 2 ^ e) (f - 2 ^ e)
  winder_stands =
      let before = number_cong m (without (held_by Winder (taken Winder e p)) e) (held_by Winder p) (λ i l. held_before Winder p e inside free i) in
      record {
        long = taken_long Winder p e ∙ s.long;
        held = omega (arith, s.held, number_more m e (held_by Winder (taken Winder e p)) below (held_here Winder p e inside free), before);
        free = rest Winder;
      }

  pub blocker_stands : Stands m (taken Blocker e p) h (f - 2 ^ e)
  blocker_stands =
      record {
        long = taken_long Blocker p e ∙ s.long;
        held =
            s.held
            ∙ number_cong m (held_by Winder p) (held_by Winder (taken Blocker e p)) (λ i l. sym (held_others Blocker p e inside free i));
        free = rest Blocker;
      }

module _ (B : Board) (loops : List ℕ) (filled : Filled B (2 ^ edges B) loops) where
  -- the table says whether Winder has won
  table_wound : {p : List ℕ} {h f : ℕ} → Stands (edges B) p h f → ones loops h ≡ wound B p
  table_wound {p} {h} s =
      let m = edges B in
      let small : h < 2 ^ m = omega (arith, s.held, number_below m (held_by Winder p)) in
      ap (λ x. eqb x 1) (filled.at h small)
      ∙ eqb_bit _
      ∙ holds_cong B (bit_of h) (held_by Winder p) (λ e l. ap (λ x. bit_of x e) s.held ∙ number_bit m (held_by Winder p) e l)

  free_bit : {p : List ℕ} {h f : ℕ} → Stands (edges B) p h f → (e : ℕ) → e < edges B → bit_of f e ≡ is_free p e
  free_bit {p} s e l = ap (λ x. bit_of x e) s.free ∙ number_bit (edges B) (is_free p) e l

  -- one move, of either player
  step : (P : Player) {p : List ℕ} {h f : ℕ} (a b : ℕ → Bool) → Stands (edges B) p h f
      → ((e : ℕ) → e < edges B → is_free p e ≡ true → a e ≡ b e)
      → cond (ones loops h) (Waiting Winder) (choosing P (first_up_to (edges B) (λ e. bit_of f e && a e)))
      ≡ cond (wound B p) (Waiting Winder) (choosing P (first_up_to (edges B) (λ e. is_free p e && b e)))
  step P {p} {h} {f} a b s same =
      rw (table_wound s)
      (ap (λ o. cond (wound B p) (Waiting Winder) (choosing P o))
      (first_cong (edges B) (λ e. bit_of f e && a e) (λ e. is_free p e && b e) (λ e l. ap (λ t. t && a e) (free_bit s e l) ∙ go e l (is_free p e) refl)))
    where
      go : (e : ℕ) → e < edges B → (t : Bool) → is_free p e ≡ t → (t && a e) ≡ (t && b e)
      go e l true q = same e l q
      go e l false q = refl

  mutual
    unfolding wind_from winder_to_move

    pub winds_alike : (k : ℕ) (p : List ℕ) (h f : ℕ) → Stands (edges B) p h f → wind_from k loops (edges B) h f ≡ winder_to_move k B p
    winds_alike zero p h f s = rw (table_wound s)
    winds_alike (suc k) p h f s =
        step Winder
        (λ e. forced_by Winder (block_from k loops (edges B) (h + 2 ^ e) (f - 2 ^ e)))
        (λ e. forced_by Winder (blocker_to_move k B (taken Winder e p)))
        s
        (λ e l q. ap (forced_by Winder) (blocks_alike k (taken Winder e p) (h + 2 ^ e) (f - 2 ^ e) (winder_stands s e l q)))

    pub blocks_alike : (k : ℕ) (p : List ℕ) (h f : ℕ) → Stands (edges B) p h f → block_from k loops (edges B) h f ≡ blocker_to_move k B p
    blocks_alike zero p h f s = rw (table_wound s)
    blocks_alike (suc k) p h f s =
        step Blocker
        (λ e. forced_by Blocker (wind_from k loops (edges B) h (f - 2 ^ e)))
        (λ e. forced_by Blocker (winder_to_move k B (taken Blocker e p)))
        s
        (λ e l q. ap (forced_by Blocker) (winds_alike k (taken Blocker e p) h (f - 2 ^ e) (blocker_stands s e l q)))
