-- Of a winding loop that is split in two, one part is a trap: both have one syndrome, and so one correction, and what they cross together with
-- it differs by what the loop crosses. So the fewest edges of a trap are at most half of the distance, rounded up. Assumes nothing.
use Prim.Native.Nat.{ℕ, zero, suc, ◌+◌, ◌-◌, ◌*◌, ◌/◌, ◌≤◌}
use mathlib.Core.Path.{◌≡◌, refl, sym, ap, ap₂, subst, ◌∙◌}
use mathlib.Core.Bool.{Bool, true, false, ◌&&◌, and-true, and-false, false≢true}
use mathlib.Core.List.{List}
use mathlib.Core.Logic.{◌⊎◌, inl, inr, ⊎_elim}
use mathlib.Core.Option.{some}
use native.Mathlib.Nat.{add-zero}
use native.Mathlib.Omega.{arith}
use borrow.Author.Tests.{lt-ltb, le-ltb}
use lib.Dec.{ltb}
use Rattle.model.specs.Sums.{Set, ◌⊕◌, bit, count_up_to, bytes}
use Rattle.model.specs.Board.{Board, Inside, edges}
use Rattle.model.specs.Syndrome.{syndrome}
use Rattle.model.specs.Winding.{winds, together, size}
use Rattle.model.specs.Decoding.{corrected}
use Rattle.model.specs.Distance.{fewest}
use Rattle.model.specs.Traps.{flipped_sheet, traps, fewest_trap}
use Rattle.model.proofs.Xor.{xor_and}
use Rattle.model.proofs.SumLaws.{odd_cong, odd_xor, count_cong, count_none}
use Rattle.model.proofs.CountLaws.{nth, count_append}
use Rattle.model.proofs.ListLaws.{values_cong}
use Rattle.theory.proofs.Syndromes.{syndrome_together, together_closed}
use Rattle.theory.proofs.CrossedLines.{Line, crosses, crosses_oddly, Unmarked, winds_closed, unwound_unmarked, unmarked_unwound}
use Rattle.theory.proofs.FewestSets.{Member}
use Rattle.theory.proofs.Distances.{fewest_least}
use Rattle.theory.proofs.Traps.{flipped_has, flipped_corrected, loop_traps, trap_least}

-- the exclusive or of three, of which one stands on both sides
parted : (a b c : Bool) → a ≡ (b ⊕ c) ⊕ ((a ⊕ b) ⊕ c)
parted true true true = refl
parted true true false = refl
parted true false true = refl
parted true false false = refl
parted false true true = refl
parted false true false = refl
parted false false true = refl
parted false false false = refl

module _ (B : Board) (r : Inside B) (loss : List ℕ) (D : Set) (w : winds B D ≡ true) (E : Set) where
  -- the other part
  abbrev F : Set
  F = together D E

  -- one syndrome, and so one correction
  same_lit : bytes B.vertices (syndrome B F) ≡ bytes B.vertices (syndrome B E)
  same_lit =
      values_cong B.vertices (λ v. bit (syndrome B F v)) (λ v. bit (syndrome B E v))
      (λ v h. ap bit (syndrome_together B D E v ∙ ap (λ b. b ⊕ syndrome B E v) ((winds_closed B D w).at v h)))

  abbrev C : Set
  C = corrected (flipped_sheet B loss E)

  same_corrected : corrected (flipped_sheet B loss F) ≡ C
  same_corrected = ap (λ l. corrected (record { board = B; syndrome = l; loss = loss })) same_lit

  crossed : (x : Line) → crosses_oddly B x D ≡ crosses_oddly B x (together E C) ⊕ crosses_oddly B x (together F C)
  unfolding crosses_oddly
  crossed x =
      odd_cong (edges B) _ _ (λ e h. ap (λ b. b && crosses B x e) (parted (D e) (E e) (C e)) ∙ xor_and (E e ⊕ C e) (F e ⊕ C e) (crosses B x e))
      ∙ odd_xor (edges B) (λ e. (E e ⊕ C e) && crosses B x e) (λ e. (F e ⊕ C e) && crosses B x e)

  -- neither part winds with the correction, nor does the loop then
  pub one_part_traps : (traps B loss E ≡ true) ⊎ (traps B loss F ≡ true)
  unfolding traps
  one_part_traps = go (winds B (together E C)) refl (winds B (together F (corrected (flipped_sheet B loss F)))) refl
    where
      go : (s : Bool) → winds B (together E C) ≡ s → (t : Bool) → winds B (together F (corrected (flipped_sheet B loss F))) ≡ t
          → (s ≡ true) ⊎ (t ≡ true)
      go true p t q = inl refl
      go false p true q = inr refl
      go false p false q =
          let one = unwound_unmarked B (together E C) (together_closed B E C _ (flipped_has B loss E) (flipped_corrected B loss E r)) p in
          let shut = together_closed B F _ _ (flipped_has B loss F) (flipped_corrected B loss F r) in
          let other = unwound_unmarked B _ shut q in
          let both : Unmarked B D = λ x. crossed x ∙ ap₂ ◌⊕◌ (one x) (subst (λ Z. crosses_oddly B x (together F Z) ≡ false) same_corrected (other x)) in
          absurd (false≢true (sym (unmarked_unwound B D both) ∙ w))

-- The sizes of the two parts, where the first has the edges below i

module _ (D : Set) (i m : ℕ) (h : i ≤ m) where
  abbrev front : Set
  front e = D e && ltb e i

  rest : m ≡ i + (m - i)
  rest = omega arith

  pub front_size : count_up_to m front ≡ count_up_to i D
  front_size =
      ap (λ n. count_up_to n front) rest
      ∙ count_append i (m - i) front
      ∙ ap₂ ◌+◌
      (count_cong i front D (λ e l. ap (λ b. D e && b) (lt-ltb e i l) ∙ and-true (D e)))
      (count_none (m - i) (λ j. front (i + j)) (λ j l. ap (λ b. D (i + j) && b) (le-ltb (i + j) i (omega arith)) ∙ and-false (D (i + j))))
      ∙ add-zero (count_up_to i D)

  pub back_size : count_up_to m (together D front) + count_up_to i D ≡ count_up_to m D
  back_size =
      let below = count_none i (together D front) (λ e l. ap (λ b. D e ⊕ (D e && b)) (lt-ltb e i l) ∙ twice (D e)) in
      let above =
      count_cong (m - i) (λ j. together D front (i + j)) (λ j. D (i + j))
      (λ j l. ap (λ b. D (i + j) ⊕ (D (i + j) && b)) (le-ltb (i + j) i (omega arith)) ∙ once (D (i + j)))
      in
      omega (arith, whole (together D front), whole D, below, above)
    where
      whole : (f : Set) → count_up_to m f ≡ count_up_to i f + count_up_to (m - i) (λ j. f (i + j))
      whole f = ap (λ n. count_up_to n f) rest ∙ count_append i (m - i) f

      twice : (a : Bool) → (a ⊕ (a && true)) ≡ false
      twice true = refl
      twice false = refl

      once : (a : Bool) → (a ⊕ (a && false)) ≡ a
      once true = refl
      once false = refl

-- the fewest edges of a trap
pub trap_half : (B : Board) → Inside B → (loss : List ℕ) (k d : ℕ) → fewest_trap B loss ≡ some k → fewest B ≡ some d → 2 * k ≤ d + 1
trap_half B r loss k d is at = go d loop.count
  where
    loop : Member B (winds B) d
    loop = (fewest_least B d at).reached

    least : (E : Set) → traps B loss E ≡ true → k ≤ size B E
    least = (trap_least B loss k is).least

    D : Set
    D = loop.set

    go : (c : ℕ) → size B D ≡ c → 2 * k ≤ c + 1
    go zero p = omega (arith, p, least D (loop_traps B loss D loop.holds))
    go (suc c) p =
        let half = nth (edges B) D (suc c / 2) (omega (arith, p)) in
        let below : half.at ≤ edges B = omega (arith, half.less) in
        let one = front_size D half.at (edges B) below in
        let other = back_size D half.at (edges B) below in
        ⊎_elim
        (λ t. omega (arith, least (front D half.at (edges B) below) t, one, half.before))
        (λ t. omega (arith, least _ t, other, half.before, p))
        (one_part_traps B r loss D loop.holds (front D half.at (edges B) below))
