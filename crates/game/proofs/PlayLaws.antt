-- What the two functions that call each other find, a step at a time (specs, `wind_from` and `block_from`). Assumes nothing.
use Prim.Native.Nat.{ℕ, zero, suc, ◌+◌, ◌-◌, ◌^◌, ◌≤◌, ◌<◌}
use mathlib.Core.Path.{◌≡◌, refl, sym, ap, ◌∙◌}
use mathlib.Core.Bool.{true, ◌&&◌}
use mathlib.Core.Logic.{◌≢◌}
use mathlib.Core.List.{List}
use native.Mathlib.Omega.{arith}
use borrow.Author.Tests.{eq-eqb, ne_eqb}
use lib.ListN.{get_or}
use lib.Pow.{pow_mono}
use Rattle.model.specs.declared.answers.Player.TheVariants.{Winder, Blocker}
use Rattle.model.specs.declared.answers.Forced.{Forced}
use Rattle.model.specs.declared.answers.Forced.TheVariants.{Taking, Waiting}
use Rattle.model.specs.Sums.{Set, count_up_to, first_up_to}
use Rattle.model.specs.Correction.{without}
use Rattle.model.specs.Words.{bit_of}
use Rattle.model.specs.Game.{forced_by, choosing}
use Rattle.model.proofs.SumLaws.{count_cong}
use Rattle.board.proofs.Searching.{Passed, ends_at, ends_nowhere}
use Rattle.game.specs.Searching.{set_limit, wind_from, block_from, Searchable}
use Rattle.game.proofs.MaskLaws.{power_within, count_without, bits_without}

module _ (loops : List ℕ) (m h f : ℕ) where
  -- the edges that keep the win, with one edge less free after the move
  abbrev pub wind_keeps : ℕ → Set
  wind_keeps k e = bit_of f e && forced_by Winder (block_from k loops m (h + 2 ^ e) (f - 2 ^ e))

  abbrev pub block_keeps : ℕ → Set
  block_keeps k e = bit_of f e && forced_by Blocker (wind_from k loops m h (f - 2 ^ e))

  -- Winder has won
  pub wind_won : (k : ℕ) → get_or loops h 0 ≡ 1 → Waiting Winder ≡ wind_from k loops m h f
  unfolding wind_from
  wind_won zero p = rw (eq-eqb (get_or loops h 0) 1 p)
  wind_won (suc k) p = rw (eq-eqb (get_or loops h 0) 1 p)

  pub block_won : (k : ℕ) → get_or loops h 0 ≡ 1 → Waiting Winder ≡ block_from k loops m h f
  unfolding wind_from
  block_won zero p = rw (eq-eqb (get_or loops h 0) 1 p)
  block_won (suc k) p = rw (eq-eqb (get_or loops h 0) 1 p)

  -- the edges have run out
  pub wind_out : (k : ℕ) → k ≡ 0 → get_or loops h 0 ≢ 1 → Waiting Blocker ≡ wind_from k loops m h f
  unfolding wind_from
  wind_out k z p = rw (z, ne_eqb (get_or loops h 0) 1 p)

  pub block_out : (k : ℕ) → k ≡ 0 → get_or loops h 0 ≢ 1 → Waiting Blocker ≡ block_from k loops m h f
  unfolding wind_from
  block_out k z p = rw (z, ne_eqb (get_or loops h 0) 1 p)

  -- otherwise the first edge decides that keeps the win
  wind_by : (k : ℕ) → k ≢ 0 → get_or loops h 0 ≢ 1 → wind_from k loops m h f ≡ choosing Winder (first_up_to m (wind_keeps (k - 1)))
  unfolding wind_from
  wind_by zero some p = absurd (some refl)
  wind_by (suc k) some p = let less : suc k - 1 ≡ k = omega arith in rw (ne_eqb (get_or loops h 0) 1 p, less)

  block_by : (k : ℕ) → k ≢ 0 → get_or loops h 0 ≢ 1 → block_from k loops m h f ≡ choosing Blocker (first_up_to m (block_keeps (k - 1)))
  unfolding wind_from
  block_by zero some p = absurd (some refl)
  block_by (suc k) some p = let less : suc k - 1 ≡ k = omega arith in rw (ne_eqb (get_or loops h 0) 1 p, less)

  module _ (k : ℕ) (some : k ≢ 0) (unwound : get_or loops h 0 ≢ 1) {e : ℕ} where
    pub wind_takes : Passed (wind_keeps (k - 1)) e → e < m → wind_keeps (k - 1) e ≡ true → Taking Winder (record { 0 = e }) ≡ wind_from k loops m h f
    wind_takes p l q = ap (choosing Winder) (ends_at m p l q) ∙ sym (wind_by k some unwound)

    pub wind_waits : Passed (wind_keeps (k - 1)) e → m ≤ e → Waiting Blocker ≡ wind_from k loops m h f
    wind_waits p l = ap (choosing Winder) (ends_nowhere m p l) ∙ sym (wind_by k some unwound)

    pub block_takes : Passed (block_keeps (k - 1)) e → e < m → block_keeps (k - 1) e ≡ true → Taking Blocker (record { 0 = e }) ≡ block_from k loops m h f
    block_takes p l q = ap (choosing Blocker) (ends_at m p l q) ∙ sym (block_by k some unwound)

    pub block_waits : Passed (block_keeps (k - 1)) e → m ≤ e → Waiting Winder ≡ block_from k loops m h f
    block_waits p l = ap (choosing Blocker) (ends_nowhere m p l) ∙ sym (block_by k some unwound)

  -- A move is judged by the answer r to it.
  module _ (k e edge : ℕ) (r : Forced) (power : edge ≡ 2 ^ e) (free : bit_of f e ≡ true) where
    pub wind_judged : r ≡ block_from k loops m (h + edge) (f - edge) → wind_keeps k e ≡ forced_by Winder r
    wind_judged p = rw free (sym (ap (forced_by Winder) (p ∙ ap (λ x. block_from k loops m (h + x) (f - x)) power)))

    pub block_judged : r ≡ wind_from k loops m h (f - edge) → block_keeps k e ≡ forced_by Blocker r
    block_judged p = rw free (sym (ap (forced_by Blocker) (p ∙ ap (λ x. wind_from k loops m h (f - x)) power)))

  -- No mask that is reached lies past the table.
  module _ {k : ℕ} (s : Searchable loops m h f k) where
    few_sets : 2 ^ m ≤ set_limit
    few_sets = pow_mono {i = m} {j = 10} s.few

    pub held_inside : h < set_limit
    held_inside = omega (arith, s.room, few_sets)

    -- where an edge is taken, there is room still, and one edge less is free
    module _ (e : ℕ) (below : e < m) (free : bit_of f e ≡ true) where
      less_free : (edge : ℕ) → edge ≡ 2 ^ e → k - 1 ≡ count_up_to m (bit_of (f - edge))
      less_free edge power =
          let within : f < 2 ^ m = omega (arith, s.room) in
          let rest = count_cong m (bit_of (f - edge)) (without (bit_of f) e) (λ i l. ap (λ x. bit_of (f - x) i) power ∙ bits_without m f e within below free i l) in
          omega (arith, s.free_edges, rest, count_without m e (bit_of f) below free)

      pub wind_next : (edge : ℕ) → edge ≡ 2 ^ e → Searchable loops m (h + edge) (f - edge) (k - 1)
      wind_next edge power =
          record {
            few = s.few;
            long = s.long;
            room = omega (arith, s.room, power, power_within f e free);
            free_edges = less_free edge power;
          }

      pub block_next : (edge : ℕ) → edge ≡ 2 ^ e → Searchable loops m h (f - edge) (k - 1)
      block_next edge power = record { few = s.few; long = s.long; room = omega (arith, s.room); free_edges = less_free edge power }
