-- The first three lines of a table sheet, strict or loose, and what follows them: the rows, and the end.
-- Assumes nothing.
use Rattle.std.specs.Prelude.{◌≡◌, Result, Ok, Err}
use Rattle.laws.specs.Prelude.{ℕ, ◌∙◌, ap, subst, refl, List, drop}
use Rattle.rules.specs.Text.{space, newline, text, newline_byte}
use Rattle.rules.specs.Sheets.Fields.{Reader, then, ◌>>=◌, give, Layout, field_in, the_word, closed}
use Rattle.rules.specs.Sheets.Reading.{answered}
use Rattle.rules.specs.Sheets.Sheets as sheets
use Rattle.rules.specs.Sheets.Sheets.{header_lines_in}
use Rattle.nets.specs.Forms.{header_of}
use Rattle.rules.specs.Calls.Answers.{accepted}
use Rattle.answers.specs.AnswerMaps.{refused_by}
use Rattle.answers.specs.declared.refusal.Refusal.{Refusal}
use Rattle.fields.specs.Chained.{Answers, end_of, end_refused, end_accepted, field_then_then, never_both}
use Rattle.fields.specs.Header.FirstLines.{HeaderHeld, HeaderRest}
use Rattle.fields.specs.Steps.{Step, step_as, nothing, spelled}
use Rattle.fields.specs.declared.header.name_line.HeaderRead.{HeaderRead}
use Rattle.fields.specs.declared.steps.Field.{Field}

unfoldable pub table_head : Layout → Reader sheets.Header
table_head layout = header_lines_in layout space >>= λ h. field_in layout (the_word "ink") newline >>= λ _. give h

-- ---- the header, then the word

module _ (layout : Layout) (s : List ℕ) (r : Result HeaderRead Refusal) (lines : HeaderRest s 0 (header_lines_in layout space) r) where
  pub head_refused : (e : Refusal) → r ≡ Err e → HeaderRest s 0 (table_head layout) (Err e)
  unfolding table_head then
  head_refused e is = record { reads = rw (← lines.reads, is) refl; held = λ read q. absurd (never_both (Err e) e read refl q) }

  module _ (read : HeaderRead) (is : r ≡ Ok read) (word : Step)
      (reads : step_as nothing s word ≡ field_in layout (spelled (text "ink")) newline_byte (drop read.next s) read.next) where
    head_after : table_head layout s 0 ≡ then (step_as nothing s word) (λ _. give (header_of s read.header))
    unfolding table_head spelled the_word newline then
    head_after = rw (← lines.reads, is, ← reads) refl

    pub word_refused : (e : Refusal) → word ≡ Err e → HeaderRest s 0 (table_head layout) (Err e)
    unfolding then
    word_refused e refused = record { reads = rw (head_after, refused) refl; held = λ x q. absurd (never_both (Err e) e x refl q) }

    pub word_read : (found : Field) → word ≡ Ok found → HeaderRest s 0 (table_head layout) (Ok (record { header = read.header; next = found.next }))
    unfolding then
    word_read found on = record { reads = rw (head_after, on) refl; held = λ x q. subst (HeaderHeld s) (same x q) (lines.held read is) }
      where
        same : (x : HeaderRead) → ◌≡◌ {A = Result HeaderRead Refusal} (Ok (record { header = read.header; next = found.next })) (Ok x) → read.header ≡ x.header
        same x q = cc

-- ---- a whole sheet: these rows, from which `table` makes the result

module _ {A B : Type 0} (layout : Layout) (rows : sheets.Header → Reader A) (table : sheets.Header → A → B) where
  after_head : sheets.Header → Reader B
  after_head h = rows h >>= λ a. closed >>= λ _. give (table h a)

  unfoldable pub whole_sheet : Reader B
  whole_sheet = header_lines_in layout space >>= λ h. field_in layout (the_word "ink") newline >>= λ _. rows h >>= λ a. closed >>= λ _. give (table h a)

  joined : (s : List ℕ) → (table_head layout >>= after_head) s 0 ≡ whole_sheet s 0
  unfolding table_head whole_sheet after_head then closed
  joined s =
      field_then_then (header_lines_in layout space s 0) _ _
      ∙ ap (then (header_lines_in layout space s 0)) (λ i h t p. field_then_then (field_in layout (the_word "ink") newline t p) (λ _. give h) after_head i)

  -- the result of a whole sheet has the type R, with the value b
  module _ {R : Type 0} (s : List ℕ) (r : Result HeaderRead Refusal) (lines : HeaderRest s 0 (table_head layout) r) (b : R → B) (Held : R → Type 0) where
    pub sheet_refused : (e : Refusal) → r ≡ Err e → Answers s 0 whole_sheet b Held (Err e)
    unfolding then answered
    sheet_refused e is = record { answer = rw (← (joined s), ← lines.reads, is) refl; held = λ x q. absurd (never_both (Err e) e x refl q) }

    module _ (read : HeaderRead) (is : r ≡ Ok read) where
      sheet_on : (result : Result R Refusal) → Answers s read.next (after_head (header_of s read.header)) b Held result → Answers s 0 whole_sheet b Held result
      unfolding then
      sheet_on result onward = record { answer = rw (← (joined s), ← lines.reads, is) onward.answer; held = onward.held }

      module _ (a : A) (last : Step) (reads : step_as (λ _. a) s last ≡ rows (header_of s read.header) (drop read.next s) read.next) where
        pub sheet_end_refused : (e : Refusal) → refused_by e ≡ end_of s last → Answers s 0 whole_sheet b Held (Err e)
        unfolding after_head
        sheet_end_refused e ends =
            sheet_on (Err e)
            (end_refused (rows (header_of s read.header)) (table (header_of s read.header)) s read.next a last reads b Held e ends)

        pub sheet_accepted : (x : R) → b x ≡ table (header_of s read.header) a → accepted tt ≡ end_of s last → ((found : Field) → last ≡ Ok found → Held x)
            → Answers s 0 whole_sheet b Held (Ok x)
        unfolding after_head
        sheet_accepted x value ends held =
            sheet_on (Ok x)
            (end_accepted (rows (header_of s read.header)) (table (header_of s read.header)) s read.next a last reads b Held x value ends held)
