-- The verdict's outcome from that of decoding: a refusal of its own tests, number 10 from decoding, or the comparison with the correction
-- that decoding wrote. Assumes nothing.
use Prim.Native.Nat.{ℕ, ◌<◌, ◌≤◌}
use mathlib.Core.Path.{◌≡◌, refl, sym, ap, ◌∙◌}
use mathlib.Core.Bool.{Bool, true, false, cond}
use mathlib.Core.List.{List}
use mathlib.Core.Option.{Option, none, some}
use lib.Dec.{eqb}
use lib.ListN.{length, take, replicate}
use Rattle.model.specs.declared.refusal.Refusal.{Refusal}
use Rattle.model.specs.declared.answers.Key.{Key}
use Rattle.model.specs.declared.answers.Verdict.{Verdict}
use Rattle.model.specs.declared.answers.Verdict.TheVariants as verdict
use Rattle.model.specs.Sums.{Set, ◌⊕◌, ones, bytes}
use Rattle.model.specs.Board.{Board, Sheet, edges, edge_limit}
use Rattle.model.specs.Winding.{together, crossings, size}
use Rattle.model.specs.Decoding.{smallest_odd, growths, supports, corrected}
use Rattle.model.specs.Verdict.{differs, judged_at, judged}
use Rattle.model.specs.Refusals.{none_at, verdict_refusal}
use Rattle.model.specs.Outcomes.{key_or_none, key_or, Decodes, judged_or_none, verdict_answer, Judges}
use Rattle.model.proofs.Contradiction.{zero_one}
use Rattle.model.proofs.ListLaws.{front_long, ones_bytes, bytes_valid}
use Rattle.theory.proofs.CrossedLines.{crossings_cong}
use Rattle.theory.proofs.Decodings.{passed_answer, none_answer, key_answer}
use Rattle.board.specs.Checks.{test_of}
use Rattle.board.proofs.Calls.{ForVerdict, verdict_passes, passes_decode, passes_verdict}
use Rattle.verdict.specs.Judging.{Judgeable, Comparable, decoded_or, Compares}
use Rattle.model.specs.Answers.{Decoded, key_with}
use Rattle.std.specs.Prelude.{Result, Ok, Err}

-- only the edges of the correction below the edge count matter
judged_cong : (B : Board) (S C D H : Set) → ((e : ℕ) → e < edges B → C e ≡ D e) → judged B S C H ≡ judged B S D H
unfolding judged
judged_cong B S C D H same =
    ap (λ x. judged_at (differs B S H) x)
    (crossings_cong B (together H C) (together H D) (λ e h. ap (λ t. H e ⊕ t) (same e h)))

-- a comparison leaves what decoding wrote
judged_decoded : {A : Type 0} (B : Board) (S C H : Set) (new old : A) → decoded_or (judged B S C H) new old ≡ new
unfolding judged
judged_decoded {A} B S C H new old = at (differs B S H) (crossings B (together H C))
  where
    by : (t : Bool) (x : ℕ) → decoded_or (cond t verdict.Same (verdict.Wound x)) new old ≡ new
    by true x = refl
    by false x = refl

    at : (o : Option ℕ) (x : ℕ) → decoded_or (judged_at o x) new old ≡ new
    at none x = by (eqb x 0) x
    at (some v) x = refl

-- The verdict's answer

-- a test of the verdict's own fails
pub refused_judges : (X : Sheet) (handed : List ℕ) (n : Refusal) → verdict_refusal X handed ≡ some n → Judges X handed (verdict.Refused n)
unfolding verdict_answer
refused_judges X handed n p = record { result = rw p }

-- none does: number 10 with the smallest vertex of all odd parts, or the comparison
pub passed_verdict : (X : Sheet) (handed : List ℕ) → verdict_refusal X handed ≡ none → verdict_answer X handed ≡ judged_or_none X handed
unfolding verdict_answer
passed_verdict X handed p = rw p

pub none_verdict : (X : Sheet) (handed : List ℕ) (v : ℕ) → smallest_odd X.board (ones X.syndrome) ≡ some v
    → judged_or_none X handed ≡ verdict.Refused (none_at v)
unfolding judged_or_none
none_verdict X handed v p = rw p

pub judged_verdict : (X : Sheet) (handed : List ℕ) → smallest_odd X.board (ones X.syndrome) ≡ none
    → judged_or_none X handed ≡ judged X.board (ones X.syndrome) (corrected X) (ones handed)
unfolding judged_or_none
judged_verdict X handed p = rw p

-- What is lent where the verdict's tests pass: the fronts of two arrays of zeros are the buffers

module _ (X : Sheet) (handed : List ℕ) {r : Result Unit Refusal} (tested : test_of r ≡ verdict_refusal X handed) (passed : r ≡ Ok tt) where
  lent_for : ForVerdict X handed
  lent_for = verdict_passes X handed (sym tested ∙ ap test_of passed)

  pub buffers_fit : edges X.board ≤ edge_limit
  buffers_fit = lent_for.sheet.board.inside.edges_limited

  pub front_whole : length (take (edges X.board) (replicate {A = ℕ} edge_limit 0)) ≡ edges X.board
  front_whole = front_long (edges X.board) edge_limit 0 buffers_fit

  pub comparable : (support correction : List ℕ) → length support ≡ edges X.board → length correction ≡ edges X.board → Comparable X handed support correction
  comparable support correction long also =
      record { sheet = lent_for.sheet; handed_bytes = lent_for.bytes; support_long = long; correction_long = also }

-- That answer from decoding's, a, with what decoding wrote

module _ (X : Sheet) (handed support correction support' correction' : List ℕ) (lent : Comparable X handed support correction)
    (a : Decoded) (d : Decodes X support correction a support' correction') where
  decoded_is : a ≡ key_or_none X
  decoded_is =
      d.result
      ∙ passed_answer X support correction
      (passes_decode X support correction
      (record { sheet = lent.sheet; support_long = lent.support_long; correction_long = lent.correction_long }))

  judged_is : verdict_answer X handed ≡ judged_or_none X handed
  judged_is = passed_verdict X handed (passes_verdict X handed (record { sheet = lent.sheet; bytes = lent.handed_bytes }))

  -- decoding refuses: number 10, with the same vertex
  none_judges : (n : Refusal) → a ≡ Err n → Judges X handed (verdict.Refused n)
  none_judges n refused = go (smallest_odd X.board (ones X.syndrome)) refl
    where
      go : (o : Option ℕ) → smallest_odd X.board (ones X.syndrome) ≡ o → Judges X handed (verdict.Refused n)
      go (some v) p =
          let q : Err n ≡ Err (none_at v) = sym refused ∙ decoded_is ∙ none_answer X v p in
          let same : n ≡ none_at v = cc in
          record { result = ap verdict.Refused same ∙ sym (judged_is ∙ none_verdict X handed v p) }
      go none p =
          let q : Err n ≡ key_with (growths X) (size X.board (corrected X)) = sym refused ∙ decoded_is ∙ key_answer X p in
          zero_one (cc)

  pub none_compares : (n : Refusal) → a ≡ Err n → Compares X handed support correction (verdict.Refused n) support' correction'
  none_compares n refused =
      record {
        judges = none_judges n refused;
        support_bytes = d.support_bytes ∙ ap (λ x. key_or x (supports X) support) refused;
        correction_bytes = d.correction_bytes ∙ ap (λ x. key_or x (bytes (edges X.board) (corrected X)) correction) refused;
      }

  -- decoding gives a key: the correction is written, and can be compared
  module _ (k : Key) (key : a ≡ Ok k) where
    key_written : correction' ≡ bytes (edges X.board) (corrected X)
    key_written = d.correction_bytes ∙ ap (λ x. key_or x (bytes (edges X.board) (corrected X)) correction) key

    pub judgeable : Judgeable X.board X.syndrome handed correction'
    judgeable =
        record {
          inside = lent.sheet.board.inside;
          open_bytes = lent.sheet.board.open_bytes.count;
          syndrome_bytes = lent.sheet.syndrome;
          handed_bytes = lent.handed_bytes;
          correction_bytes = rw key_written (bytes_valid (edges X.board) (corrected X));
          unlit = lent.sheet.unlit;
        }

    key_judges : (r : Verdict) → r ≡ judged X.board (ones X.syndrome) (ones correction') (ones handed) → Judges X handed r
    key_judges r q = go (smallest_odd X.board (ones X.syndrome)) refl
      where
        go : (o : Option ℕ) → smallest_odd X.board (ones X.syndrome) ≡ o → Judges X handed r
        go (some v) p =
            let e : Ok k ≡ Err (none_at v) = sym key ∙ decoded_is ∙ none_answer X v p in
            zero_one (cc)
        go none p =
            record {
              result =
                  q
                  ∙ judged_cong X.board (ones X.syndrome) (ones correction') (corrected X) (ones handed)
                  (λ e h. ap (λ l. ones l e) key_written ∙ ones_bytes (edges X.board) (corrected X) e h)
                  ∙ sym (judged_is ∙ judged_verdict X handed p);
            }

    pub key_compares : (r : Verdict) → r ≡ judged X.board (ones X.syndrome) (ones correction') (ones handed)
        → Compares X handed support correction r support' correction'
    key_compares r q =
        record {
          judges = key_judges r q;
          support_bytes =
              d.support_bytes
              ∙ ap (λ x. key_or x (supports X) support) key
              ∙ sym (ap (λ v. decoded_or v (supports X) support) q ∙ judged_decoded _ _ _ _ (supports X) support);
          correction_bytes =
              key_written
              ∙ sym (ap (λ v. decoded_or v (bytes (edges X.board) (corrected X)) correction) q ∙ judged_decoded _ _ _ _ _ correction);
        }
