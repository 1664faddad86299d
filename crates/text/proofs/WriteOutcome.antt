-- The outcome of a write, from the tests that passed and from the bytes that were put. Assumes nothing.
use Prim.Native.Nat.{ℕ, ◌+◌, ◌≤◌, ◌<◌}
use mathlib.Core.Path.{◌≡◌, refl, sym, ap, ◌∙◌}
use mathlib.Core.Bool.{true}
use mathlib.Core.List.{List, [], ◌∷◌, ◌++◌}
use mathlib.Core.Option.{none, some}
use native.Mathlib.Nat.{zero-add}
use native.Mathlib.Omega.{arith}
use borrow.Author.Tests.{le-leb, lt-leb}
use lib.ListN.{length, take, drop}
use lib.Seq.{sets-eq, take_at}
use Rattle.board.proofs.CopyLaws.{copied}
use Rattle.board.proofs.Validity.{sheet_passes}
use Rattle.model.specs.declared.refusal.Refusal.{Refusal}
use Rattle.model.specs.declared.refusal.Refusal.TheVariants.{TextLength, TextBuffer}
use Rattle.model.specs.Sums.{or_else}
use Rattle.model.specs.Board.{Sheet, ValidSheet}
use Rattle.model.specs.Refusals.{Rule, refusal_of, sheet_rules}
use Rattle.model.specs.Text.{text_of}
use Rattle.model.specs.TextOutcomes.{text_limit, text_rule, text_buffer_rule, write_refusal, write_answer, Writes}
use Rattle.model.proofs.RuleLists.{refusal_append}
use Rattle.text.specs.Printing.{Puts, sheet_bytes}
use Rattle.text.proofs.PrintLaws.{text_bytes}
use Rattle.std.specs.Prelude.{Ok, Err}

-- the tests of the sheet, then those of the text
module _ (X : Sheet) (buffer : List ℕ) where
  abbrev pub text_rules : List Rule
  text_rules = text_rule (text_of X) ∷ text_buffer_rule (text_of X) buffer ∷ []

  pub write_tests : write_refusal X buffer ≡ or_else (refusal_of (sheet_rules X true)) (refusal_of text_rules)
  unfolding write_refusal
  write_tests = refusal_append (sheet_rules X true) text_rules

  -- a refusal writes nothing
  nothing_written : (n : Refusal) → write_refusal X buffer ≡ some n → Writes X buffer (Err n) buffer
  unfolding write_answer
  nothing_written n p = record { result = rw p; text_written = refl }

  pub sheet_refused : (n : Refusal) → refusal_of (sheet_rules X true) ≡ some n → Writes X buffer (Err n) buffer
  sheet_refused n p = nothing_written n (write_tests ∙ rw p)

  module _ (passes : refusal_of (sheet_rules X true) ≡ none) where
    pub valid : ValidSheet X
    valid = (sheet_passes X true passes).sheet

    -- the bytes put are the text
    pub is_text : sheet_bytes X ≡ text_of X
    is_text = text_bytes X valid.board.open_bytes.count valid.syndrome.count valid.loss.count

    module _ (k : ℕ) (long : k ≡ length (sheet_bytes X)) where
      is_long : length (text_of X) ≡ k
      is_long = ap length (sym is_text) ∙ sym long

      pub too_long : text_limit < k → Writes X buffer (Err TextLength) buffer
      too_long h = nothing_written TextLength (write_tests ∙ rw (passes, is_long, lt-leb k text_limit h))

      pub no_room : k ≤ text_limit → length buffer < k → Writes X buffer (Err TextBuffer) buffer
      no_room short h = nothing_written TextBuffer (write_tests ∙ rw (passes, is_long, le-leb k text_limit short, lt-leb k (length buffer) h))

      pub all_written : k ≤ text_limit → k ≤ length buffer → (lines buffer' : List ℕ) → take k lines ≡ sheet_bytes X
          → buffer' ≡ copied lines buffer k → Writes X buffer (Ok k) buffer'
      unfolding write_answer
      all_written short room lines buffer' front is =
          record {
            result = rw (write_tests, passes, is_long, le-leb k text_limit short, le-leb k (length buffer) room);
            text_written = is ∙ ap (λ x. x ++ drop k buffer) (front ∙ is_text) ∙ ap (λ n. text_of X ++ drop n buffer) (sym is_long);
          }

-- what was put at the begin of a buffer stands there
pub in_front : (bytes out out' : List ℕ) (k : ℕ) → Puts bytes out 0 k out' → length bytes ≤ length out → take k out' ≡ bytes
in_front bytes out out' k w fit =
    let e = sets-eq bytes out 0 (omega arith) in
    rw (w.put, e) (take_at bytes (drop (0 + length bytes) out) k (sym (w.position ∙ zero-add (length bytes))))
