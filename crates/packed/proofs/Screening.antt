-- Decoding of a packed sheet tests what decoding tests of its bytes, once the words are right: the unpacked bytes have their lengths and
-- are 0 or 1, so that 7 and 8 never come of them. So says the look at the words before decoding. Assumes nothing.
use Prim.Native.Nat.{ℕ}
use mathlib.Core.Path.{◌≡◌, refl, sym, ap, ap₂, ◌∙◌}
use mathlib.Core.Bool.{Bool, ◌&&◌}
use mathlib.Core.Logic.{◌≢◌}
use mathlib.Core.List.{List}
use mathlib.Core.Option.{none, some, none-ne-some, some-ne-none}
use native.Mathlib.Omega.{arith}
use borrow.Author.Tests.{eqb-true, eq-eqb}
use Rattle.model.specs.declared.refusal.Refusal.{Refusal}
use Rattle.model.specs.Sums.{or_else}
use Rattle.model.specs.Board.{Board, Sheet, ValidBytes}
use Rattle.model.specs.Words.{in_words, word_count, bytes_in, unpacked_sheet}
use Rattle.model.specs.Refusals.{Rule, Test, refusal_of, sized, edges_of, board_sized, edge_rules, board_rules, bytes_sized, byte_rules, plain_rules, open_rules, decode_refusal}
use Rattle.model.specs.WordRefusals.{words_sized, word_rules, packed_board_rules, packed_rules, decode_packed_refusal}
use Rattle.model.proofs.Xor.{and_left, and_right}
use Rattle.model.proofs.ListLaws.{bytes_valid}
use Rattle.std.specs.Prelude.{Result, Ok, Err}
use Rattle.board.specs.Checks.{test_of}
use Rattle.board.proofs.Failures.{neither_fails, each_passes, passes_each, passed}
use Rattle.board.proofs.Passing.{counts_say, say_bytes}
use Rattle.board.proofs.Validity.{board_counts, board_tests, plain_tests, sheet_tests}
use Rattle.packed.specs.Screened.{Fitting, Screened}
use Rattle.packed.proofs.WordTests.{WithinWords, both_say, say_both, before_open_tests, packed_tests}

-- unpacked bytes are as many as there are items, and each is 0 or 1
pub in_bytes : (n : ℕ) (words : List ℕ) → ValidBytes n (bytes_in n words)
unfolding bytes_in
in_bytes n words = bytes_valid n (in_words words)

module _ (B : Board) (syndrome loss support correction : List ℕ) where
  abbrev X : Sheet
  X = unpacked_sheet B syndrome loss

  abbrev m : ℕ
  m = edges_of B.ends

  -- the buffers to fill have their lengths, and so have the words
  abbrev filled : Bool
  filled = sized support m && sized correction m

  abbrev others : Bool
  others = words_sized B.vertices m syndrome loss && filled

  -- the tests 1 to 3
  abbrev pub packed_counts : List Rule
  packed_counts = board_counts B others

  -- The tests in turn: the counts, the edges, the words, the open bytes

  in_turn : decode_packed_refusal B syndrome loss support correction
      ≡ or_else
      (or_else
      (or_else (refusal_of packed_counts) (refusal_of (edge_rules B)))
      (refusal_of (word_rules B.vertices syndrome m loss)))
      (refusal_of (open_rules X))
  in_turn =
      packed_tests B syndrome loss support correction
      ∙ ap (λ t. or_else t (refusal_of (open_rules X)))
      (before_open_tests B syndrome loss support correction
      ∙ ap (λ t. or_else t (refusal_of (word_rules B.vertices syndrome m loss))) (board_tests B others))

  -- what the counts say of the words
  pub counts_fit : refusal_of packed_counts ≡ none → Fitting B syndrome loss
  counts_fit p =
      let k = counts_say B.vertices B.ends (board_sized B && others) (each_passes packed_counts p) in
      let words = and_left (words_sized B.vertices m syndrome loss) filled (and_right (board_sized B) others k.others) in
      let lit = sized syndrome (word_count B.vertices) in
      record {
        vertices_limited = k.vertices_limited;
        edges_limited = omega (arith, k.end_limit);
        syndrome_words = eqb-true _ _ (and_left lit (sized loss (word_count m)) words);
        loss_words = eqb-true _ _ (and_right lit (sized loss (word_count m)) words);
      }

  pub board_fits : refusal_of (packed_board_rules B syndrome loss support correction) ≡ none → Fitting B syndrome loss
  board_fits p = counts_fit (neither_fails (refusal_of packed_counts) _ (sym (board_tests B others) ∙ p)).0

  -- Words that are right, whatever else is broken

  -- decoding's own tests up to 8 are those of the board
  plain_passes_bytes : refusal_of (plain_rules X filled) ≡ or_else (refusal_of (board_rules B filled)) none
  unfolding unpacked_sheet
  plain_passes_bytes =
      let lit = in_bytes B.vertices syndrome in
      let lost = in_bytes m loss in
      let sizes : (bytes_sized X && filled) ≡ filled = rw (eq-eqb _ _ lit.count, eq-eqb _ _ lost.count) in
      plain_tests X filled
      ∙ ap₂ (λ o t. or_else (refusal_of (board_rules B o)) t) sizes
      (passes_each (byte_rules X.syndrome X.loss) (say_bytes _ X.syndrome _ lit, (say_bytes _ X.loss _ lost, tt)))

  -- so are those of the packed sheet up to 19
  words_pass : WithinWords B.vertices syndrome → WithinWords m loss
      → refusal_of (packed_rules B syndrome loss support correction) ≡ or_else (refusal_of (board_rules B filled)) none
  words_pass lit lost =
      let sizes : others ≡ filled = rw (eq-eqb _ _ lit.count, eq-eqb _ _ lost.count) in
      before_open_tests B syndrome loss support correction
      ∙ ap₂ (λ o t. or_else (refusal_of (board_rules B o)) t) sizes (say_both lit lost)

  -- so the refusal is decoding's own of the unpacked bytes
  pub as_unpacked : WithinWords B.vertices syndrome → WithinWords m loss
      → decode_packed_refusal B syndrome loss support correction ≡ decode_refusal X support correction
  unfolding decode_refusal unpacked_sheet
  as_unpacked lit lost =
      packed_tests B syndrome loss support correction
      ∙ ap (λ t. or_else t (refusal_of (open_rules X))) (words_pass lit lost ∙ sym plain_passes_bytes)
      ∙ sym (sheet_tests X filled)

  -- Theorem: where 1, 2, 3, 4, 6 and 19 pass, the refusal is decoding's own of the unpacked bytes.
  pub as_decoding_refusal : refusal_of (packed_rules B syndrome loss support correction) ≡ none
      → decode_packed_refusal B syndrome loss support correction ≡ decode_refusal X support correction
  as_decoding_refusal p =
      let tests = before_open_tests B syndrome loss support correction in
      let t = neither_fails (refusal_of (packed_board_rules B syndrome loss support correction)) _ (sym tests ∙ p) in
      let fit = board_fits t.0 in
      let w = both_say B.vertices m syndrome loss (fit.syndrome_words, fit.loss_words) t.1 in
      as_unpacked w.0 w.1

  -- so where nothing is refused, decoding refuses nothing of the unpacked bytes
  pub packed_passes : decode_packed_refusal B syndrome loss support correction ≡ none → decode_refusal X support correction ≡ none
  packed_passes p =
      let tests = packed_tests B syndrome loss support correction in
      let t = neither_fails (refusal_of (packed_rules B syndrome loss support correction)) _ (sym tests ∙ p) in
      sym (as_decoding_refusal t.0) ∙ p

  -- What the look before decoding answers

  refuses_as : (r : Result Unit Refusal) → test_of r ≢ none → decode_packed_refusal B syndrome loss support correction ≡ test_of r
      → Screened B syndrome loss support correction r
  refuses_as r fails e = record { refused = λ n p. e ∙ p; fitting = λ p. absurd (fails p); the_rest = λ p. absurd (fails p) }

  -- i and j are the counts of words, and c is the answer of the tests 1 to 3
  module _ (i j : ℕ) (vertex_words : i ≡ word_count B.vertices) (edge_words : j ≡ word_count m) (c : Result Unit Refusal)
      (counts : test_of c ≡ refusal_of (board_counts B ((sized syndrome i && sized loss j) && filled))) where
    counted : test_of c ≡ refusal_of packed_counts
    counted = rw (vertex_words, edge_words) at counts

    -- the counts are refused
    pub screened_first : (n : Refusal) → c ≡ Err n → Screened B syndrome loss support correction (Err n)
    screened_first n e = refuses_as (Err n) (some-ne-none n) (in_turn ∙ rw (sym counted ∙ ap test_of e))

    -- a word is refused, but after ends and marks
    pub screened_later : (r : Result Unit Refusal) (n : Refusal) → c ≡ Ok tt
        → refusal_of (word_rules B.vertices syndrome m loss) ≡ some n → test_of r ≡ or_else (refusal_of (edge_rules B)) (some n)
        → Screened B syndrome loss support correction r
    screened_later r n p q e =
        refuses_as r
        (λ none_said. some-ne-none n (neither_fails (refusal_of (edge_rules B)) (some n) (sym e ∙ none_said)).1)
        (in_turn ∙ rw (passed _ c counted p, q) (first (refusal_of (edge_rules B)) (refusal_of (open_rules X))) ∙ sym e)
      where
        first : (t u : Test) → or_else (or_else t (some n)) u ≡ or_else t (some n)
        first none u = refl
        first (some k) u = refl

    -- both pass
    pub screened_passed : c ≡ Ok tt → refusal_of (word_rules B.vertices syndrome m loss) ≡ none
        → Screened B syndrome loss support correction (Ok tt)
    screened_passed p q =
        let fit = counts_fit (passed _ c counted p) in
        let w = both_say B.vertices m syndrome loss (fit.syndrome_words, fit.loss_words) q in
        record { refused = λ n e. absurd (none-ne-some n e); fitting = λ e. fit; the_rest = λ e. as_unpacked w.0 w.1 }
