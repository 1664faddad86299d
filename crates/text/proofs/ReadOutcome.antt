-- The outcome of a read, from the tests that passed and from what the lines came to. Assumes nothing.
use Prim.Native.Nat.{ℕ, ◌*◌, ◌≤◌, ◌<◌}
use mathlib.Core.Path.{◌≡◌, refl, sym, ap, ◌∙◌}
use mathlib.Core.Bool.{Bool, true, false, ◌&&◌}
use mathlib.Core.List.{List, ◌++◌}
use native.Mathlib.Omega.{arith}
use borrow.Author.Tests.{eq-eqb, le-leb, lt-leb}
use lib.ListN.{length, take, drop}
use lib.Seq.{length-take-le}
use Rattle.model.specs.declared.refusal.Refusal.{Refusal}
use Rattle.model.specs.declared.refusal.Refusal.TheVariants.{BufferLength, TextLength}
use Rattle.model.specs.declared.answers.Counts.{Counts}
use Rattle.model.specs.Board.{Sheet, edges, vertex_limit, edge_limit}
use Rattle.model.specs.Refusals.{sized}
use Rattle.model.specs.Text.{Read, complete, refused, read_text}
use Rattle.model.specs.TextOutcomes.{text_limit, over, Buffers, buffers_of, read_refusal, read_outcome, counts, filled, Reads}
use Rattle.model.proofs.Contradiction.{zero_one}
use Rattle.board.proofs.CopyLaws.{copied}
use Rattle.text.specs.Scratch.{Sized, Held, Holds, ReadsInto}
use Rattle.std.specs.Prelude.{Ok, Err}

-- the lent buffers have their lengths
abbrev pub fit : Buffers → Bool
fit b =
    sized b.ends (2 * edge_limit)
    && sized b.marks edge_limit
    && sized b.opened vertex_limit
    && sized b.syndrome vertex_limit
    && sized b.loss edge_limit

pub sized_fits : (b : Buffers) → Sized b → fit b ≡ true
sized_fits b z =
    rw (
      eq-eqb (length b.ends) (2 * edge_limit) z.ends_long,
      eq-eqb (length b.marks) edge_limit z.marks_long,
      eq-eqb (length b.opened) vertex_limit z.open_long,
      eq-eqb (length b.syndrome) vertex_limit z.syndrome_long,
      eq-eqb (length b.loss) edge_limit z.loss_long,
    )

-- the entries of n vertices and m edges copied from one buffer after the other
abbrev copied_over : Buffers → Buffers → ℕ → ℕ → Buffers
copied_over new old n m =
    record {
      ends = copied new.ends old.ends (2 * m);
      marks = copied new.marks old.marks m;
      opened = copied new.opened old.opened n;
      syndrome = copied new.syndrome old.syndrome n;
      loss = copied new.loss old.loss m;
    }

-- the entries held in front, copied over what is lent
laid : (new old : List ℕ) {part : List ℕ} (k : ℕ) → take k new ≡ part → k ≤ length new → copied new old k ≡ over part old
laid new old {part} k p h =
    ap (λ x. x ++ drop k old) p ∙ ap (λ n. part ++ drop n old) (sym (length-take-le k new h) ∙ ap length p)

-- the sheet that was read, copied over what is lent
copied_sheet : (X : Sheet) (new old : Buffers) → Holds X new → copied_over new old X.board.vertices (edges X.board) ≡ filled (complete X) old
copied_sheet X new old h =
    let n = X.board.vertices in
    let m = edges X.board in
    let z = h.sized in
    λ i.
    buffers_of
    (laid new.ends old.ends (2 * m) h.ends_held (omega (arith, h.edges_limited, z.ends_long)) i)
    (laid new.marks old.marks m h.marks_held (omega (arith, h.edges_limited, z.marks_long)) i)
    (laid new.opened old.opened n h.open_held (omega (arith, h.vertices_limited, z.open_long)) i)
    (laid new.syndrome old.syndrome n h.syndrome_held (omega (arith, h.vertices_limited, z.syndrome_long)) i)
    (laid new.loss old.loss m h.loss_held (omega (arith, h.edges_limited, z.loss_long)) i)

module _ (t : List ℕ) (old : Buffers) where
  -- a test that fails writes nothing
  nothing_written : (n : Refusal) → read_outcome t old ≡ refused n → Reads t old (Err n) old
  nothing_written n p = record { result = sym (ap counts p); buffers = sym (ap (λ o. filled o old) p) }

  pub wrong_length : fit old ≡ false → Reads t old (Err BufferLength) old
  unfolding read_outcome read_refusal
  wrong_length p = nothing_written BufferLength (rw p)

  module _ (fits : fit old ≡ true) where
    pub too_long : text_limit < length t → Reads t old (Err TextLength) old
    unfolding read_outcome read_refusal
    too_long h = nothing_written TextLength (rw (fits, lt-leb (length t) text_limit h))

    module _ (short : length t ≤ text_limit) where
      -- the lines decide
      pub by_lines : read_outcome t old ≡ read_text t
      unfolding read_outcome read_refusal
      by_lines = rw (fits, le-leb (length t) text_limit short)

      -- a reading that is refused fills nothing in
      pub none_filled : (f : Refusal) (new : Buffers) → ReadsInto t (Err f) new → Reads t old (Err f) old
      none_filled f new w =
          record { result = w.result ∙ ap counts (sym by_lines); buffers = go (read_text t) w.result ∙ ap (λ o. filled o old) (sym by_lines) }
        where
          go : (o : Read) → Err f ≡ counts o → old ≡ filled o old
          go (complete X) p = zero_one (cc)
          go (refused n) p = refl

      -- as many entries were copied as the counts say
      pub reads : (c : Counts) (new : Buffers) (e k o s l : List ℕ) → ReadsInto t (Ok c) new
          → e ≡ copied new.ends old.ends (2 * c.edges) → k ≡ copied new.marks old.marks c.edges
          → o ≡ copied new.opened old.opened c.vertices → s ≡ copied new.syndrome old.syndrome c.vertices
          → l ≡ copied new.loss old.loss c.edges → Reads t old (Ok c) (buffers_of e k o s l)
      reads c new e k o s l w e-is k-is o_is s-is l-is =
          record {
            result = w.result ∙ ap counts (sym by_lines);
            buffers =
                (λ i. buffers_of (e-is i) (k-is i) (o_is i) (s-is i) (l-is i))
                ∙ go (read_text t) w.result w.held
                ∙ ap (λ o. filled o old) (sym by_lines);
          }
        where
          go : (o : Read) → Ok c ≡ counts o → Held o new → copied_over new old c.vertices c.edges ≡ filled o old
          go (complete X) p h =
              let c-is : c ≡ record { vertices = X.board.vertices; edges = edges X.board } = cc in
              ap (λ x. copied_over new old x.vertices x.edges) c-is ∙ copied_sheet X new old h
          go (refused f) p h = zero_one (cc)
