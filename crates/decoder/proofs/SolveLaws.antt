-- Each way out of `solve` is that of the definitions: a test that fails writes nothing, and the key of the sheet without its marks is that of
-- the sheet.
-- Assumes nothing.
use Prim.Native.Nat.{ℕ}
use mathlib.Core.Path.{◌≡◌, refl, sym, ap, ap₂, ◌∙◌, subst}
use mathlib.Core.List.{List}
use mathlib.Core.Option.{Option, none, some}
use lib.ListN.{length, replicate}
use Rattle.model.specs.declared.refusal.Refusal.{Refusal}
use Rattle.model.specs.Sums.{Set, count_up_to, ones, bytes}
use Rattle.model.specs.Board.{Board, Sheet, EndsWithin, board_of, sheet_of, unmarked}
use Rattle.model.specs.Winding.{size}
use Rattle.model.specs.Growth.{Policy}
use Rattle.model.specs.Decoding.{grown_by, peeled}
use Rattle.model.specs.Refusals.{refused_at, none_at, odd_part_test, decode_refusal}
use Rattle.model.specs.Outcomes.{answer}
use Rattle.board.proofs.Calls.{ForDecoding, decode_passes}
use Rattle.theory.proofs.MarksAside.{unmarked_long, smallest_aside, key_aside, peeled_aside}
use Rattle.decoder.specs.declared.growing.Growth.{Growth}
use Rattle.decoder.specs.Growing.{policy_of}
use Rattle.decoder.specs.Runs.{bare}
use Rattle.std.specs.Prelude.{Ok, Err}
use Rattle.decoder.specs.Keys.{Keyable, solved_or_none, Keys, Solves, Solving, solved_with}
use Rattle.decoder.proofs.Policies.{policy_aside}

module _ (n : ℕ) (ends marks opened syndrome loss support written : List ℕ) where
  abbrev board : Board
  board = board_of n ends marks opened

  abbrev sheet : Sheet
  sheet = sheet_of board syndrome loss

  abbrev refusal : Option Refusal
  refusal = decode_refusal sheet support written

  -- a test fails
  pub refuses : (policy : Board → Set → Policy) (r : Refusal) → some r ≡ refusal → Solves policy sheet support written (Err r) support written
  refuses policy r p =
      record {
        result = ap (λ t. answer t Err (solved_or_none policy sheet)) p;
        support_bytes = refl;
        correction_bytes = refl;
      }

  module _ (passed : none ≡ refusal) where
    valid : ForDecoding sheet support written
    valid = decode_passes sheet support written (sym passed)

    lost_long : length loss ≡ length marks
    lost_long = valid.sheet.loss.count

    pub keyable : Keyable n ends opened syndrome loss support written
    keyable =
        record {
          lent = subst (λ m. EndsWithin n m ends) (sym lost_long) valid.sheet.board.inside;
          open_bytes = valid.sheet.board.open_bytes.count;
          lit = valid.sheet.syndrome;
          unlit = valid.sheet.unlit;
          support_long = valid.support_long ∙ sym lost_long;
          correction_long = valid.correction_long ∙ sym lost_long;
        }

    -- the marks do not matter
    same : length marks ≡ length {A = ℕ} (replicate (length loss) 0)
    same = unmarked_long (length loss) marks (sym lost_long)

    module _ (x : Growth) where
      abbrev policy : Board → Set → Policy
      policy = policy_of x

      alike : (s : List ℕ) → policy board (ones syndrome) s ≡ policy (unmarked n (length loss) ends opened) (ones syndrome) s
      alike s = policy_aside x n ends marks _ opened same (ones syndrome) s

      grown_is : grown_by policy (bare n ends opened syndrome loss) ≡ grown_by policy sheet
      grown_is = sym (key_aside n ends marks _ opened same syndrome loss policy alike)

      peeled_is : peeled (bare n ends opened syndrome loss) (grown_by policy (bare n ends opened syndrome loss)) ≡ peeled sheet (grown_by policy sheet)
      peeled_is = sym (peeled_aside n ends marks _ opened same syndrome loss policy alike)

      size_is : size (unmarked n (length loss) ends opened) (peeled (bare n ends opened syndrome loss) (grown_by policy (bare n ends opened syndrome loss)))
          ≡ size board (peeled sheet (grown_by policy sheet))
      size_is =
          ap (λ D. count_up_to (length {A = ℕ} (replicate (length loss) 0)) D) peeled_is
          ∙ ap (λ k. count_up_to k (peeled sheet (grown_by policy sheet))) (sym same)

      solved_is : solved_or_none policy (bare n ends opened syndrome loss) ≡ solved_or_none policy sheet
      unfolding solved_or_none
      solved_is =
          ap (λ a. answer (odd_part_test (bare n ends opened syndrome loss)) Err a) (ap₂ solved_with (ap (λ w. w.count) grown_is) size_is)
          ∙ ap (λ o. answer (refused_at o none_at) Err (solved_with (grown_by policy sheet).count (size board (peeled sheet (grown_by policy sheet)))))
          (sym (smallest_aside n ends marks _ opened same (ones syndrome)))

      result_is : {r : Solving} → r ≡ solved_or_none policy (bare n ends opened syndrome loss) → r ≡ answer refusal Err (solved_or_none policy sheet)
      result_is p = p ∙ solved_is ∙ ap (λ t. answer t Err (solved_or_none policy sheet)) passed

      supports_are : (grown_by policy (bare n ends opened syndrome loss)).support ≡ (grown_by policy sheet).support
      supports_are = ap (λ w. w.support) grown_is

      correction_is : bytes (length {A = ℕ} (replicate (length loss) 0)) (peeled (bare n ends opened syndrome loss) (grown_by policy (bare n ends opened syndrome loss)))
          ≡ bytes (length marks) (peeled sheet (grown_by policy sheet))
      correction_is = rw (same, peeled_is)

      -- the key of the sheet without its marks is that of the sheet
      pub solves : (r : Solving) (s k : List ℕ) → Keys policy (bare n ends opened syndrome loss) support written r s k
          → Solves policy sheet support written r s k
      solves (Ok x) s k w =
          record {
            result = result_is w.result;
            support_bytes = w.support_bytes ∙ supports_are;
            correction_bytes = w.correction_bytes ∙ correction_is;
          }
      solves (Err x) s k w = record { result = result_is w.result; support_bytes = w.support_bytes; correction_bytes = w.correction_bytes }
