-- Where the stack's builder refuses nothing, side and rounds are those of a stack that is built, every buffer has its length, and the
-- readings are valid bytes. Assumes nothing.
use Prim.Native.Nat.{ℕ}
use mathlib.Core.Path.{◌≡◌, sym, ◌∙◌}
use mathlib.Core.List.{List}
use mathlib.Core.Option.{none}
use Rattle.model.specs.declared.refusal.Refusal.TheVariants.{BufferLength}
use Rattle.model.specs.Refusals.{refusal_of, layer_rules, reading_rules, stack_sized, stack_refusal}
use Rattle.model.proofs.RuleLists.{unless_passes}
use Rattle.board.proofs.Failures.{neither_fails, each_passes}
use Rattle.board.proofs.Passing.{bytes_say}
use Rattle.stack.specs.Lent.{ForStack}
use Rattle.stack.proofs.LayerTests.{passed_layers}
use Rattle.stack.proofs.StackTests.{stack_tests, readings_long, syndrome_long, ends_long, marks_long}

pub stack_passes : (L R : ℕ) (readings ends marks syndrome : List ℕ) → stack_refusal L R readings ends marks syndrome ≡ none
    → ForStack L R readings ends marks syndrome
stack_passes L R readings ends marks syndrome p =
    let fits = stack_sized L R readings ends marks syndrome in
    let t = neither_fails (refusal_of (layer_rules L R)) _ (sym (stack_tests L R readings ends marks syndrome) ∙ p) in
    let e = each_passes (reading_rules L R readings ends marks syndrome) t.1 in
    let fit = unless_passes fits BufferLength e.0 in
    record {
      within = passed_layers L R t.0;
      bytes = bytes_say _ readings _ (readings_long L R readings ends marks syndrome fit) e.1.0;
      syndrome_sized = syndrome_long L R readings ends marks syndrome fit;
      ends_sized = ends_long L R readings ends marks syndrome fit;
      marks_sized = marks_long L R readings ends marks syndrome fit;
    }
