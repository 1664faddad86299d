-- The outcome of packing and of unpacking, where a test fails and where all pass, and what may be relied on of it. Assumes nothing.
use Prim.Native.Nat.{ℕ, ◌^◌, ◌<◌}
use mathlib.Core.Path.{◌≡◌, refl, sym, ap, ap₂, ◌∙◌}
use mathlib.Core.List.{List}
use mathlib.Core.Option.{none, some}
use lib.ListN.{length, get_or}
use Rattle.model.specs.declared.refusal.Refusal.{Refusal}
use Rattle.model.specs.Sums.{ones}
use Rattle.model.specs.Board.{ValidBytes}
use Rattle.model.specs.Words.{word_count, words_of, bytes_in}
use Rattle.model.specs.WordRefusals.{pack_refusal, unpack_refusal}
use Rattle.model.specs.Outcomes.{answer}
use Rattle.model.specs.WordOutcomes.{pack_answer, packed_or, Packs, PacksSoundly, unpack_answer, counts_or, Unpacks, UnpacksSoundly}
use Rattle.model.proofs.Contradiction.{zero_one}
use Rattle.model.proofs.Places.{answer_passed}
use Rattle.packed.proofs.RoundTrips.{words_long, words_within, unpacks_packed, packs_unpacked}
use Rattle.packed.proofs.Screening.{in_bytes}
use Rattle.packed.proofs.WordTests.{ForPacking, ForUnpacking, pack_passes, passes_pack, unpack_passes, passes_unpack}
use Rattle.model.specs.Answers.{Packed, Reading, counts_with, word_counts_with}
use Rattle.std.specs.Prelude.{Err}

-- valid bytes are as many as they are
pub as_many : (n : ℕ) (l : List ℕ) → ValidBytes n l → ValidBytes (length l) l
as_many n l v = rw v.count v

-- Packing

module _ (n m : ℕ) (syndrome loss lit lost : List ℕ) where
  module _ (r : Packed) (lit' lost' : List ℕ) (packs : Packs n m syndrome loss lit lost r lit' lost') where
    module _ (i j : ℕ) (is : r ≡ word_counts_with i j) where
      valid : ForPacking n m syndrome loss lit lost
      unfolding pack_answer
      valid =
          pack_passes n m syndrome loss lit lost
          (answer_passed (pack_refusal n m syndrome loss lit lost) _ r packs.result (λ x p. zero_one cc))

      lit_is : lit' ≡ words_of n (ones syndrome)
      lit_is = packs.syndrome_packed ∙ ap (λ a. packed_or a (words_of n (ones syndrome)) lit) is

      lost_is : lost' ≡ words_of m (ones loss)
      lost_is = packs.loss_packed ∙ ap (λ a. packed_or a (words_of m (ones loss)) lost) is

      accepted : unpack_refusal n m lit' lost' syndrome loss ≡ none
      accepted =
          let items = valid.items in
          rw (lit_is, lost_is)
          (passes_unpack n m syndrome loss (words_of n (ones syndrome)) (words_of m (ones loss))
          (record {
            items =
                record {
                  some_vertex = items.some_vertex;
                  vertices_limited = items.vertices_limited;
                  edges_limited = items.edges_limited;
                  syndrome_long = items.syndrome_long;
                  loss_long = items.loss_long;
                  syndrome_words = words_long n (ones syndrome);
                  loss_words = words_long m (ones loss);
                };
            syndrome_within = words_within n (ones syndrome);
            loss_within = words_within m (ones loss);
          }))

    -- what was packed is unpacked again
    packs_sound : PacksSoundly n m syndrome loss r lit' lost'
    packs_sound =
        record {
          accepted = accepted;
          syndrome_back = λ i j is. ap (bytes_in n) (lit_is i j is) ∙ unpacks_packed n syndrome (valid i j is).syndrome_bytes;
          loss_back = λ i j is. ap (bytes_in m) (lost_is i j is) ∙ unpacks_packed m loss (valid i j is).loss_bytes;
        }

  abbrev PackPromises : Packed → List ℕ → List ℕ → Type 0
  PackPromises r lit' lost' = Packs n m syndrome loss lit lost r lit' lost' × PacksSoundly n m syndrome loss r lit' lost'

  pub pack_refused : (x : Refusal) → pack_refusal n m syndrome loss lit lost ≡ some x → PackPromises (Err x) lit lost
  unfolding pack_answer
  pack_refused x p =
      let packs : Packs n m syndrome loss lit lost (Err x) lit lost =
      record {
        result = ap (λ t. answer t Err (word_counts_with (word_count n) (word_count m))) (sym p);
        syndrome_packed = refl;
        loss_packed = refl;
      } in
      (packs, packs_sound (Err x) lit lost packs)

  pub pack_written : (lit' lost' : List ℕ) → pack_refusal n m syndrome loss lit lost ≡ none
      → lit' ≡ words_of (length syndrome) (ones syndrome) → lost' ≡ words_of (length loss) (ones loss)
      → PackPromises (word_counts_with (length lit') (length lost')) lit' lost'
  unfolding pack_answer
  pack_written lit' lost' p lit-filled lost-filled =
      let items = (pack_passes n m syndrome loss lit lost p).items in
      let lit_words = lit-filled ∙ ap (λ k. words_of k (ones syndrome)) items.syndrome_long in
      let lost-words = lost-filled ∙ ap (λ k. words_of k (ones loss)) items.loss_long in
      let counts = ap₂ word_counts_with (ap length lit_words ∙ words_long n (ones syndrome)) (ap length lost-words ∙ words_long m (ones loss)) in
      let packs : Packs n m syndrome loss lit lost (word_counts_with (length lit') (length lost')) lit' lost' =
      record {
        result = counts ∙ ap (λ t. answer t Err (word_counts_with (word_count n) (word_count m))) (sym p);
        syndrome_packed = lit_words;
        loss_packed = lost-words;
      } in
      (packs, packs_sound (word_counts_with (length lit') (length lost')) lit' lost' packs)

-- Unpacking

module _ (n m : ℕ) (lit lost syndrome loss : List ℕ) (lit-fits : (w : ℕ) → get_or lit w 0 < 2 ^ 64) (lost-fits : (w : ℕ) → get_or lost w 0 < 2 ^ 64) where
  module _ (r : Reading) (syndrome' loss' : List ℕ) (unpacks : Unpacks n m lit lost syndrome loss r syndrome' loss') where
    module _ (i j : ℕ) (is : r ≡ counts_with i j) where
      fit : ForUnpacking n m lit lost syndrome loss
      unfolding unpack_answer
      fit =
          unpack_passes n m syndrome loss lit lost
          (answer_passed (unpack_refusal n m lit lost syndrome loss) _ r unpacks.result (λ x p. zero_one cc))

      syndrome_is : syndrome' ≡ bytes_in n lit
      syndrome_is = unpacks.syndrome_bytes ∙ ap (λ a. counts_or a (bytes_in n lit) syndrome) is

      loss_is : loss' ≡ bytes_in m lost
      loss_is = unpacks.loss_bytes ∙ ap (λ a. counts_or a (bytes_in m lost) loss) is

      packable : pack_refusal n m syndrome' loss' lit lost ≡ none
      packable =
          let items = fit.items in
          rw (syndrome_is, loss_is)
          (passes_pack n m (bytes_in n lit) (bytes_in m lost) lit lost
          (record {
            items =
                record {
                  some_vertex = items.some_vertex;
                  vertices_limited = items.vertices_limited;
                  edges_limited = items.edges_limited;
                  syndrome_long = (in_bytes n lit).count;
                  loss_long = (in_bytes m lost).count;
                  syndrome_words = items.syndrome_words;
                  loss_words = items.loss_words;
                };
            syndrome_bytes = in_bytes n lit;
            loss_bytes = in_bytes m lost;
          }))

    -- what was unpacked is packed again
    unpacks_sound : UnpacksSoundly n m lit lost r syndrome' loss'
    unpacks_sound =
        record {
          accepted = packable;
          syndrome_back = λ i j is. ap (λ l. words_of n (ones l)) (syndrome_is i j is) ∙ packs_unpacked n lit (fit i j is).syndrome_within lit-fits;
          loss_back = λ i j is. ap (λ l. words_of m (ones l)) (loss_is i j is) ∙ packs_unpacked m lost (fit i j is).loss_within lost-fits;
        }

  abbrev UnpackPromises : Reading → List ℕ → List ℕ → Type 0
  UnpackPromises r syndrome' loss' = Unpacks n m lit lost syndrome loss r syndrome' loss' × UnpacksSoundly n m lit lost r syndrome' loss'

  pub unpack_refused : (x : Refusal) → unpack_refusal n m lit lost syndrome loss ≡ some x → UnpackPromises (Err x) syndrome loss
  unfolding unpack_answer
  unpack_refused x p =
      let unpacks : Unpacks n m lit lost syndrome loss (Err x) syndrome loss =
      record { result = ap (λ t. answer t Err (counts_with n m)) (sym p); syndrome_bytes = refl; loss_bytes = refl } in
      (unpacks, unpacks_sound (Err x) syndrome loss unpacks)

  pub unpack_written : (syndrome' loss' : List ℕ) → unpack_refusal n m lit lost syndrome loss ≡ none
      → syndrome' ≡ bytes_in (length syndrome) lit → loss' ≡ bytes_in (length loss) lost → UnpackPromises (counts_with n m) syndrome' loss'
  unfolding unpack_answer
  unpack_written syndrome' loss' p syndrome-are loss-are =
      let items = (unpack_passes n m syndrome loss lit lost p).items in
      let unpacks : Unpacks n m lit lost syndrome loss (counts_with n m) syndrome' loss' =
      record {
        result = ap (λ t. answer t Err (counts_with n m)) (sym p);
        syndrome_bytes = syndrome-are ∙ ap (λ k. bytes_in k lit) items.syndrome_long;
        loss_bytes = loss-are ∙ ap (λ k. bytes_in k lost) items.loss_long;
      } in
      (unpacks, unpacks_sound (counts_with n m) syndrome' loss' unpacks)
