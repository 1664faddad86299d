-- Traps (model, Traps): the sheet handed out after a set was flipped has a correction; t + 2s of a trap is no smaller than the distance; and
-- every winding loop is a trap, so that there is a trap exactly where a loop winds. Assumes nothing.
use Prim.Native.Nat.{ℕ, ◌+◌, ◌*◌, ◌≤◌}
use mathlib.Core.Path.{◌≡◌, refl, sym, ap, ◌∙◌}
use mathlib.Core.Bool.{true, false, false≢true}
use mathlib.Core.List.{List}
use mathlib.Core.Option.{Option, none, some}
use native.Mathlib.Nat.{lt_of_lt_of_le}
use native.Mathlib.Decide.{dec_lt}
use native.Mathlib.Omega.{arith}
use Rattle.std.proofs.lemmas.Bool.{false_from_ne_true}
use Rattle.model.specs.Sums.{Set, ◌⊕◌, bit, ones, bytes}
use Rattle.model.specs.Board.{Board, Inside, Valid, ValidBytes, ValidSheet, Unlit, edges}
use Rattle.model.specs.Syndrome.{syndrome, HasSyndrome}
use Rattle.model.specs.Winding.{winds, together}
use Rattle.model.specs.Growth.{full, weighted}
use Rattle.model.specs.Decoding.{smallest_odd, grown_by, peeled, corrected}
use Rattle.model.specs.Demand3.{EveryLoopAbove, lost_edges, kept_edges}
use Rattle.model.specs.Distance.{fewest}
use Rattle.model.specs.Traps.{flipped_sheet, traps, fewest_trap}
use Rattle.model.proofs.Xor.{xor_false}
use Rattle.model.proofs.ListLaws.{values_cong, ones_bytes, bytes_valid}
use Rattle.theory.proofs.Syndromes.{syndrome_cong, open_syndrome}
use Rattle.theory.proofs.CrossedLines.{winds_cong, winds_closed}
use Rattle.theory.proofs.FewestSets.{Alike, LeastWhere, where_least, where_none, least_where, none_where}
use Rattle.theory.proofs.Distances.{fewest_least, fewest_none, none_fewest}
use Rattle.theory.proofs.NoCorrection.{no_correction_unmet}
use Rattle.theory.proofs.NothingLit.{nothing_corrected}
use Rattle.theory.proofs.WeightedGrowth.{weighted_feeds}
use Rattle.theory.proofs.Decodings.{key_reached, corrected_full, corrected_has_syndrome}
use Rattle.theory.proofs.NotWinding.{not_winding}

-- The sheet handed out after the edges of E were flipped

module _ (B : Board) (loss : List ℕ) (E : Set) where
  -- its syndrome
  abbrev pub flipped_lit : Set
  flipped_lit = ones (flipped_sheet B loss E).syndrome

  pub flipped_has : HasSyndrome B E flipped_lit
  flipped_has = record { at = λ v h. sym (ones_bytes B.vertices (syndrome B E) v h) }

  pub flipped_unlit : Unlit B flipped_lit
  flipped_unlit v h p = ones_bytes B.vertices (syndrome B E) v h ∙ open_syndrome B E v p

  pub flipped_valid : Valid B → ValidBytes (edges B) loss → ValidSheet (flipped_sheet B loss E)
  flipped_valid valid lost =
      record { board = valid; syndrome = bytes_valid B.vertices (syndrome B E); loss = lost; unlit = flipped_unlit }

  -- number 10 never arises: E has the syndrome
  pub flipped_even : Inside B → smallest_odd B flipped_lit ≡ none
  flipped_even r = go (smallest_odd B flipped_lit) refl
    where
      go : (o : Option ℕ) → smallest_odd B flipped_lit ≡ o → o ≡ none
      go none p = refl
      go (some v) p = absurd (no_correction_unmet B r flipped_lit v p E flipped_has)

  pub flipped_corrected : Inside B → HasSyndrome B (corrected (flipped_sheet B loss E)) flipped_lit
  flipped_corrected r =
      corrected_has_syndrome weighted (flipped_sheet B loss E) r flipped_unlit (weighted_feeds B flipped_lit) (flipped_even r)

module _ (B : Board) (loss : List ℕ) where
  -- no more than the board's edges of a set matter
  pub traps_cong : (D E : Set) → Alike B D E → traps B loss D ≡ traps B loss E
  unfolding traps
  traps_cong D E same =
      let lit = values_cong B.vertices (λ v. bit (syndrome B D v)) (λ v. bit (syndrome B E v)) (λ v h. ap bit (syndrome_cong B D E same v)) in
      let C : List ℕ → Set = λ l. corrected (record { board = B; syndrome = l; loss = loss }) in
      ap (λ l. winds B (together D (C l))) lit
      ∙ winds_cong B _ _ (λ e h. ap (λ b. b ⊕ C (bytes B.vertices (syndrome B E)) e) (same e h))

  -- a trap and the correction together are a loop, so that where no loop winds no set is a trap
  pub loopless_untrapped : fewest B ≡ none → (E : Set) → traps B loss E ≡ false
  unfolding traps
  loopless_untrapped out E = fewest_none B out (together E (corrected (flipped_sheet B loss E)))

  module _ (r : Inside B) where
    -- t + 2s is no smaller than the distance
    pub trap_heavy : (E : Set) (d : ℕ) → traps B loss E ≡ true → fewest B ≡ some d → d ≤ lost_edges B (ones loss) + 2 * kept_edges B (ones loss) E
    unfolding traps
    trap_heavy E d p is =
        elim (dec_lt (lost_edges B (ones loss) + 2 * kept_edges B (ones loss) E) d)
        [ yes h ↦ absurd (false≢true (sym (unwound (record { above = λ D w. lt_of_lt_of_le h ((fewest_least B d is).least D w) })) ∙ p)) | no h ↦ omega arith ]
      where
        unwound : EveryLoopAbove B (lost_edges B (ones loss) + 2 * kept_edges B (ones loss) E)
            → winds B (together E (corrected (flipped_sheet B loss E))) ≡ false
        unwound w =
            not_winding B r (flipped_lit B loss E) (ones loss) E (corrected (flipped_sheet B loss E)) (flipped_has B loss E)
            (flipped_corrected B loss E r) (key_reached weighted (flipped_sheet B loss E)) (corrected_full weighted (flipped_sheet B loss E)) w

  -- A winding loop has no syndrome, and the correction of none is empty
  pub loop_traps : (D : Set) → winds B D ≡ true → traps B loss D ≡ true
  unfolding traps peeled
  loop_traps D w =
      let X = flipped_sheet B loss D in
      let empty =
      nothing_corrected B (full (grown_by weighted X).support) (flipped_lit B loss D)
      (λ v h. ones_bytes B.vertices (syndrome B D) v h ∙ (winds_closed B D w).at v h)
      in
      winds_cong B _ D (λ e h. ap (λ b. D e ⊕ b) (empty e) ∙ xor_false (D e)) ∙ w

  -- so there is a trap exactly where a loop winds
  pub untrapped_loopless : ((E : Set) → traps B loss E ≡ false) → fewest B ≡ none
  untrapped_loopless out = none_fewest B (λ D. false_from_ne_true (winds B D) (λ w. false≢true (sym (out D) ∙ loop_traps D w)))

  -- The fewest edges of a trap

  pub trap_least : (k : ℕ) → fewest_trap B loss ≡ some k → LeastWhere B (traps B loss) k
  unfolding fewest_trap
  trap_least k p = where_least B (traps B loss) traps_cong k p

  pub least_trap : (k : ℕ) → LeastWhere B (traps B loss) k → fewest_trap B loss ≡ some k
  unfolding fewest_trap
  least_trap k l = least_where B (traps B loss) traps_cong k l

  pub trap_none : fewest_trap B loss ≡ none → (E : Set) → traps B loss E ≡ false
  unfolding fewest_trap
  trap_none p = where_none B (traps B loss) traps_cong p

  pub none_trap : ((E : Set) → traps B loss E ≡ false) → fewest_trap B loss ≡ none
  unfolding fewest_trap
  none_trap out = none_where B (traps B loss) traps_cong out
