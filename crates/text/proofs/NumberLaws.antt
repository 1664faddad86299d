-- The number of the line that begins at a position: the line after it has the next number. Assumes nothing.
use Prim.Native.Nat.{ℕ, zero, suc, ◌+◌, ◌≤◌, ◌<◌}
use mathlib.Core.Path.{◌≡◌, refl, sym, ap, ◌∙◌}
use mathlib.Core.Bool.{Bool, true, false, cond}
use mathlib.Core.List.{List, [], ◌∷◌}
use native.Mathlib.Omega.{arith}
use lib.ListN.{length, get_or, drop}
use lib.Dec.{eqb}
use Rattle.model.specs.Sums.{bit, count_up_to}
use Rattle.model.specs.Text.{newline}
use Rattle.model.specs.LineNumbers.{newlines, newlines_before, line_number}
use Rattle.model.proofs.SumLaws.{count_bound}
use Rattle.model.proofs.CountLaws.{count_next}
use Rattle.text.specs.Pieces.{up_to}
use Rattle.text.proofs.PieceLaws.{up_to_at}

pub first_number : (t : List ℕ) → line_number t 0 ≡ 1
unfolding newlines_before count_up_to
first_number t = refl

module _ (t : List ℕ) where
  pub newlines_bound : (at : ℕ) → newlines_before t at ≤ at
  unfolding newlines_before
  newlines_bound at = count_bound at (newlines t)

  one_byte : (at : ℕ) → newlines_before t (at + 1) ≡ newlines_before t at + bit (eqb (get_or t at 0) newline)
  unfolding newlines_before
  one_byte at = count_next at (newlines t)

  -- d bytes that are no newlines, and then a newline at `end`
  counted : (d at end : ℕ) → length (up_to newline (drop at t)) ≡ d → end ≡ at + d → end < length t
      → newlines_before t (end + 1) ≡ newlines_before t at + 1
  counted zero at end p e h =
      ap (λ i. newlines_before t (i + 1)) {x = end} {y = at} (omega arith)
      ∙ here (eqb (get_or t at 0) newline) refl (sym (ap length (up_to_at newline t at (omega arith))) ∙ p)
    where
      here : (b : Bool) → eqb (get_or t at 0) newline ≡ b → length (cond b [] (get_or t at 0 ∷ up_to newline (drop (at + 1) t))) ≡ 0
          → newlines_before t (at + 1) ≡ newlines_before t at + 1
      here true q p = one_byte at ∙ ap (λ b. newlines_before t at + bit b) q
      here false q p = omega arith
  counted (suc d) at end p e h =
      further (eqb (get_or t at 0) newline) refl (sym (ap length (up_to_at newline t at (omega arith))) ∙ p)
      (λ q. counted d (at + 1) end q (omega arith) h)
    where
      further : (b : Bool) → eqb (get_or t at 0) newline ≡ b → length (cond b [] (get_or t at 0 ∷ up_to newline (drop (at + 1) t))) ≡ suc d
          → (length (up_to newline (drop (at + 1) t)) ≡ d → newlines_before t (end + 1) ≡ newlines_before t (at + 1) + 1)
          → newlines_before t (end + 1) ≡ newlines_before t at + 1
      further true q p later = omega arith
      further false q p later =
          let stays : newlines_before t (at + 1) ≡ newlines_before t at + 0 = one_byte at ∙ ap (λ b. newlines_before t at + bit b) q in
          omega (arith, later (omega arith))

  -- the line from `at` up to its newline at `end`
  pub next_number : (at end : ℕ) → end ≡ at + length (up_to newline (drop at t)) → end < length t
      → line_number t (end + 1) ≡ line_number t at + 1
  next_number at end ends h = ap (λ i. i + 1) (counted (length (up_to newline (drop at t))) at end refl ends h)
