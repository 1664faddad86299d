-- Document 01, "line from 1", said of the outcome of the call: where `read` answers number 13, its place is the number of the text's first
-- malformed line, one more than the newlines before it. That line begins at one position. Assumes nothing.
use Prim.Native.Nat.{ℕ, zero, suc, ◌≤◌, ◌<◌}
use mathlib.Core.Path.{◌≡◌, refl, ◌∙◌}
use mathlib.Core.Bool.{Bool, true, false}
use mathlib.Core.List.{List}
use native.Mathlib.Nat.{not-suc-le-zero, le_of_suc-le-suc}
use native.Mathlib.Omega.{arith}
use borrow.Author.Tests.{eq-eqb, ltb-true, ltb-false}
use lib.ListN.{length, get_or}
use lib.Dec.{leb, ltb}
use Rattle.model.specs.declared.refusal.Refusal.TheVariants.{BufferLength, TextLength, MalformedLine}
use Rattle.model.specs.Text.{newline, Read, complete, refused, read_text}
use Rattle.model.specs.TextOutcomes.{text_limit, Buffers, read_refusal, read_outcome, counts, Reads}
use Rattle.model.specs.LineNumbers.{newlines, newlines_before, line_number, LineBegins, FirstMalformed, FirstMalformedNumber}
use Rattle.model.proofs.Contradiction.{zero_one}
use Rattle.model.proofs.CountLaws.{count_less, count_before}
use Rattle.theory.proofs.LinePlaces.{malformed_place, one_number}
use Rattle.text.proofs.ReadOutcome.{fit}
use Rattle.std.specs.Prelude.{Err}

-- the tests before the lines give other numbers
by_lines : (text : List ℕ) (old : Buffers) (k : ℕ) → Err (MalformedLine k) ≡ counts (read_outcome text old)
    → Err (MalformedLine k) ≡ counts (read_text text)
unfolding read_outcome read_refusal
by_lines text old k p = go (fit old) refl (leb (length text) text_limit) refl
  where
    go : (f : Bool) → fit old ≡ f → (b : Bool) → leb (length text) text_limit ≡ b
        → Err (MalformedLine k) ≡ counts (read_text text)
    go false q b r = let wrong : Err (MalformedLine k) ≡ Err BufferLength = rw q at p in zero_one (cc)
    go true q false r = let wrong : Err (MalformedLine k) ≡ Err TextLength = rw (q, r) at p in zero_one (cc)
    go true q true r = rw (q, r) at p

pub read_place :
    {text : List ℕ} {old new : Buffers} {k : ℕ} →
    Reads text old (Err (MalformedLine k)) new →
    FirstMalformedNumber text k
read_place {text} {old} {k = k} reads =
    lines (read_text text) refl (by_lines text old k reads.result)
  where
    lines : (o : Read) → read_text text ≡ o → Err (MalformedLine k) ≡ counts o → FirstMalformedNumber text k
    lines (complete X) q p = zero_one (cc)
    lines (refused n) q p = let same : refused n ≡ refused (MalformedLine k) = cc in malformed_place text k (q ∙ same)

-- a line that begins later has a larger number: the newline right before it is one more
later_number : (text : List ℕ) (i j : ℕ) → i < j → LineBegins text j → line_number text i < line_number text j
unfolding newlines_before
later_number text i zero h b = absurd (not-suc-le-zero h)
later_number text i (suc p) h b =
    let before = count_less i p (newlines text) (le_of_suc-le-suc h) in
    omega (arith, count_before p (suc p) (newlines text) (omega arith) (eq-eqb (get_or text p 0) newline b))

not_later : (text : List ℕ) (i j : ℕ) → FirstMalformed text i → FirstMalformed text j → j ≤ i
not_later text i j f g = go (ltb i j) refl
  where
    go : (t : Bool) → ltb i j ≡ t → j ≤ i
    go true q = absurd (never (later_number text i j (ltb-true i j q) g.begins) (one_number text i j f g))
      where
        never : line_number text i < line_number text j → line_number text i ≡ line_number text j → ⊥
        never h e = omega arith
    go false q = ltb-false i j q

pub one_position : (text : List ℕ) (i j : ℕ) → FirstMalformed text i → FirstMalformed text j → i ≡ j
one_position text i j f g = omega (arith, not_later text i j f g, not_later text j i g f)
