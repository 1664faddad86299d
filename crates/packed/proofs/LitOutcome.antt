-- The outcome of the lit total and of the list of lit vertices, and what may be relied on of the total. Assumes nothing.
use Prim.Native.Nat.{ℕ, ◌≤◌}
use mathlib.Core.Path.{◌≡◌, refl, sym, ap, subst, ◌∙◌}
use mathlib.Core.Bool.{Bool, true}
use mathlib.Core.List.{List}
use mathlib.Core.Option.{none, some}
use native.Mathlib.Omega.{arith}
use borrow.Author.Tests.{eqb-true}
use lib.ListN.{length}
use Rattle.model.specs.declared.refusal.Refusal.{Refusal}
use Rattle.model.specs.Words.{in_words, lit_total}
use Rattle.model.specs.Refusals.{sized}
use Rattle.model.specs.WordRefusals.{lit_refusal}
use Rattle.model.specs.Outcomes.{answer}
use Rattle.model.specs.WordOutcomes.{lit_answer, Totals, TotalsSoundly, list_answer, Lists}
use Rattle.model.proofs.SumLaws.{count_bound}
use Rattle.model.proofs.Contradiction.{zero_one}
use Rattle.packed.specs.Listing.{items_in}
use Rattle.packed.specs.Storing.{Stored}
use Rattle.packed.proofs.LitLaws.{items_are, total_listed, total_lit}
use Rattle.packed.proofs.StoringLaws.{stored_front}
use Rattle.packed.proofs.WordTests.{lit_passes}
use Rattle.std.specs.Prelude.{Ok, Err}

module _ (n : ℕ) (words : List ℕ) where
  -- a refusal has no total
  refused_sound : (x : Refusal) → TotalsSoundly n words (Err x)
  refused_sound x = record { vertices = λ t p. zero_one cc; listed = λ t p. zero_one cc }

  -- the number of set bits is that of lit vertices, and the length of their list
  total_sound : (others : Bool) (t : ℕ) → lit_refusal n words others ≡ none → t ≡ lit_total words → TotalsSoundly n words (Ok t)
  total_sound others t p is =
      let within = (lit_passes n words others p).within in
      record {
        vertices = λ u q. let same : u ≡ t = cc in same ∙ is ∙ total_lit n words within;
        listed = λ u q. let same : u ≡ t = cc in same ∙ is ∙ total_listed n words within;
      }

  -- The total

  pub total_refused : (x : Refusal) → lit_refusal n words true ≡ some x → Totals n words (Err x) × TotalsSoundly n words (Err x)
  unfolding lit_answer
  total_refused x p = (record { result = ap (λ t. answer t Err (Ok (lit_total words))) (sym p) }, refused_sound x)

  pub total_counted : (t : ℕ) → lit_refusal n words true ≡ none → t ≡ lit_total words → Totals n words (Ok t) × TotalsSoundly n words (Ok t)
  unfolding lit_answer
  total_counted t p is = (
    record { result = ap Ok is ∙ ap (λ t. answer t Err (Ok (lit_total words))) (sym p) },
    total_sound true t p is,
  )

  -- The list

  module _ (list : List ℕ) where
    pub list_refused : (x : Refusal) → lit_refusal n words (sized list n) ≡ some x
        → Lists n words list (Err x) list × TotalsSoundly n words (Err x)
    unfolding list_answer
    list_refused x p = (
      record { result = ap (λ t. answer t Err (Ok (lit_total words))) (sym p); filled = refl },
      refused_sound x,
    )

    -- there is an entry for each lit vertex
    pub list_room : lit_refusal n words (sized list n) ≡ none → lit_total words ≤ length list
    list_room p =
        let w = lit_passes n words (sized list n) p in
        omega (arith, eqb-true (length list) n w.counted.fit, total_lit n words w.within, count_bound n (in_words words))

    pub list_filled : (t : ℕ) (list' : List ℕ) → lit_refusal n words (sized list n) ≡ none
        → Stored (items_in (length words) words) list 0 list' t → Lists n words list (Ok t) list' × TotalsSoundly n words (Ok t)
    unfolding list_answer
    list_filled t list' p s =
        let within = (lit_passes n words (sized list n) p).within in
        let vertices = subst (λ l. Stored l list 0 list' t) (items_are n words within) s in
        let is : t ≡ lit_total words = omega (arith, vertices.ended, total_listed n words within) in (
          record {
            result = ap Ok is ∙ ap (λ t. answer t Err (Ok (lit_total words))) (sym p);
            filled = stored_front vertices (omega (arith, list_room p, total_listed n words within));
          },
          total_sound (sized list n) t p is,
        )
