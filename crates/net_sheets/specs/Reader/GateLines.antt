-- All gate lines.
-- Assumes nothing.
use Rattle.std.specs.Prelude.{◌<◌, ◌≤◌, ◌+◌, ◌-◌, ◌*◌, ◌≡◌, ◌∷◌, ◌++◌, Result, Ok, Err}
use Rattle.laws.specs.Prelude.{ℕ, suc, ◌∙◌, subst, refl, false, Bool, List, [], add-zero, sub-zero, add_assoc, arith}
use Rattle.laws.specs.Prelude.{length, drop, replicate, set, drop_of_length-le, drop-cons, paste}
use Rattle.rules.specs.Limits.{most_inputs}
use Rattle.rules.specs.Lists.{range}
use Rattle.rules.specs.Sheets.Fields.{Read, then}
use Rattle.rules.specs.Sheets.Sheets.{Gate, used_by, gate_line, or_end, gate_lines}
use Rattle.laws.specs.Numbers.Sizes.{sized}
use Rattle.fields.specs.Chained.{never_both}
use Rattle.fields.specs.Header.FirstLines.{HeaderHeld}
use Rattle.answers.specs.declared.refusal.Refusal.{Refusal}
use Rattle.fields.specs.Steps.{read_as}
use Rattle.nets.specs.Forms.{gates_of, no_gates, names_in, names_count}
use Rattle.nets.specs.Room.{most_gates, most_wires, most_digits, gate_room}
use Rattle.nets.specs.Sound.{gates_length}
use Rattle.nets.specs.declared.forms.Header.{Header}
use Rattle.nets.specs.declared.forms.Net.{Net}
use Rattle.net_sheets.specs.Reader.Digits.{digits_at, net_digits_count}
use Rattle.net_sheets.specs.Reader.Gates.{NetForm, NetGrown, form_grown, line_as, LineRead, WholeLine}
use Rattle.net_sheets.specs.Reader.Keys.{Keyed, NumberKeyed}
use Rattle.net_sheets.specs.Reader.References.{Marked, none_marked, gate_marked}
use Rattle.net_sheets.specs.declared.reader.gates.Line.{Line}
use Rattle.net_sheets.specs.declared.reader.gates.GatesRead.{GatesRead}

-- a net whose number of gates is allowed under this header
pub record NetWhole (h : Header) (net : Net) : Type 0 where
  pub form : NetForm net
  pub levels : net.levels ≡ h.levels
  pub inputs : net.inputs ≡ h.inputs
  pub some : 0 < net.gates
  pub count : net.gates < h.inputs

-- the forms have room for one more gate
pub record GateRoom (inputs gates : ℕ) : Type 0 where
  pub place : gates < most_gates
  pub wires : inputs + gates < most_wires
  pub count : inputs + gates ≤ most_wires
  pub number : gates + 1 < 100

pub gate_place : (inputs gates : ℕ) → inputs ≤ most_inputs → gates < inputs - 1 → GateRoom inputs gates
gate_place inputs gates most more = record { place = omega arith; wires = omega arith; count = omega arith; number = omega arith }

-- gate lines that were read: the net is whole, and its references are marked
pub record GatesHeld (h : Header) (read : GatesRead) : Type 0 where
  pub whole : NetWhole h read.net
  pub marked : Marked read.used (used_by (gates_of read.net))

-- gate lines that were read, in the definitions
abbrev pub gates_as : List ℕ → Result GatesRead Refusal → Read (List Gate)
gates_as s r = read_as (λ read. gates_of read.net) (λ read. read.next) s r

the_gates : (r : GatesRead) (read : GatesRead) → ◌≡◌ {A = Result GatesRead Refusal} (Ok r) (Ok read) → r ≡ read
the_gates r read e = cc

-- reading the gate lines under a header
pub record GatesAll (s : List ℕ) (at : ℕ) (h : Header) (r : Result GatesRead Refusal) : Type 0 where
  pub reads : gates_as s r ≡ gate_lines h.levels (names_in s h) (h.inputs - 1) [] (drop at s) at
  pub held : (read : GatesRead) → r ≡ Ok read → GatesHeld h read

-- the loop's state: so many gates are read, and the gates from here are the gates from the start
pub record Building (s : List ℕ) (at : ℕ) (h : Header) (keys lens : List ℕ) (net : Net) (used : List Bool) (place gates : ℕ) : Type 0 where
  pub form : NetForm net
  pub levels : net.levels ≡ h.levels
  pub inputs : net.inputs ≡ h.inputs
  pub count : net.gates ≡ gates
  pub most : gates < h.inputs
  pub marked : Marked used (used_by (gates_of net))
  pub keyed : Keyed (names_in s h) keys lens (h.inputs + gates)
  pub reads : gate_lines h.levels (names_in s h) (h.inputs - 1) [] (drop at s) at
      ≡ gate_lines h.levels (names_in s h) (h.inputs - 1 - gates) (gates_of net) (drop place s) place

pub build_start : (s : List ℕ) (at : ℕ) (h : Header) (keys lens : List ℕ) (net : Net) → 2 ≤ h.inputs → Keyed (names_in s h) keys lens h.inputs
    → net ≡ no_gates h.levels h.inputs → Building s at h keys lens net (replicate most_wires false) at 0
unfolding gates_of range no_gates used_by
build_start s at h keys lens net two keyed is =
    rw is
    (record {
      form = record { lefts = refl; rights = refl; digits = refl };
      levels = refl;
      inputs = refl;
      count = refl;
      most = omega arith;
      marked = none_marked;
      keyed = rw add-zero keyed;
      reads = rw sub-zero refl;
    })

module _ (s : List ℕ) (at : ℕ) (h : Header) (keys lens : List ℕ) (net : Net) (used : List Bool) (place gates : ℕ)
    (building : Building s at h keys lens net used place gates) where
  -- all possible lines are read
  pub build_done : 2 ≤ h.inputs → h.inputs - 1 ≤ gates → GatesAll s at h (Ok (record { net = net; used = used; next = place }))
  unfolding gate_lines
  build_done two done =
      record {
        reads = rw (building.reads, none_left) refl;
        held = λ read e. subst (GatesHeld h) (the_gates _ read e) (record { whole = whole; marked = building.marked });
      }
    where
      whole : NetWhole h net
      whole =
          record {
            form = building.form;
            levels = building.levels;
            inputs = building.inputs;
            some = omega (arith, building.count);
            count = omega (arith, building.count, building.most);
          }

      none_left : h.inputs - 1 - gates ≡ 0
      none_left = omega arith

  module _ (more : gates < h.inputs - 1) (after : List Bool) (r : Result Line Refusal)
      (read_line : WholeLine s place h.levels keys lens (h.inputs + gates) used after r) where
    pub built_line : LineRead s place h.levels (gate_line h.levels (names_in s h) (gates_of net)) (gates_of net) after r
    built_line =
        read_line (names_in s h) building.keyed (gates_of net) (omega (arith, gates_length net, names_count s h, building.count))
        building.marked

    onward : gate_lines h.levels (names_in s h) (h.inputs - 1) [] (drop at s) at
        ≡ then (line_as h.levels s r)
        (λ g. or_end (gates_of net ++ (g ∷ [])) (gate_lines h.levels (names_in s h) (h.inputs - 1 - (gates + 1)) (gates_of net ++ (g ∷ []))))
    unfolding gate_lines then
    onward = rw (building.reads, counted, ← built_line.reads) refl
      where
        counted : h.inputs - 1 - gates ≡ suc (h.inputs - 1 - (gates + 1))
        counted = omega arith

    pub build_back : (e : Refusal) → r ≡ Err e → GatesAll s at h (Err e)
    unfolding then
    build_back e is = record { reads = rw (onward, is) refl; held = λ read q. absurd (never_both (Err e) e read refl q) }

    -- there is room for the line's digits
    pub build_room : HeaderHeld s h → (gates + 1) * (h.levels * h.levels) ≤ most_digits
    build_room held = gate_room h.levels h.inputs held.fits gates (omega arith)

    -- a line was read, and its gate is in the net
    module _ (held : HeaderHeld s h) (line : Line) (e : r ≡ Ok line) (written : List ℕ)
        (pasted : written ≡ paste net.digits (gates * (h.levels * h.levels)) (digits_at s line.digits (h.levels * h.levels))
        (h.levels * h.levels)) where
      abbrev more_net : Net
      more_net =
          record {
            levels = net.levels;
            inputs = net.inputs;
            gates = gates + 1;
            left = set net.left gates line.left;
            right = set net.right gates line.right;
            digits = written;
          }

      is : NetGrown net (record { left = line.left; right = line.right; digits = digits_at s line.digits (h.levels * h.levels) }) more_net
      is =
          let size = sized h.levels h.inputs held.fits in
          let within = (built_line.held line e).digits.within in
          rw (← building.count)
          (form_grown net line.left line.right (digits_at s line.digits (h.levels * h.levels)) written building.form
          (omega (arith, size.inputs_most, building.count))
          (rw (building.levels, building.count) (build_room held))
          (rw building.levels (net_digits_count s line.digits (h.levels * h.levels) within))
          (rw (building.levels, building.count) pasted))

      built_marked : Marked after (used_by (gates_of more_net))
      built_marked = rw is.gates (gate_marked after _ (gates_of net) (built_line.held line e).marked)

      -- the sheet ends after it
      pub build_end : length s ≤ line.next → GatesAll s at h (Ok (record { net = more_net; used = after; next = line.next }))
      unfolding then or_end
      build_end end =
          record {
            reads = rw (onward, e, drop_of_length-le s end, is.gates) refl;
            held = λ read q. subst (GatesHeld h) (the_gates _ read q) (record { whole = whole; marked = built_marked });
          }
        where
          whole : NetWhole h more_net
          whole =
              record {
                form = is.form;
                levels = is.levels ∙ building.levels;
                inputs = is.inputs ∙ building.inputs;
                some = omega arith;
                count = omega arith;
              }

      -- the sheet continues
      pub build_next : line.next < length s → (more_keys more_lens : List ℕ) → NumberKeyed h.inputs gates keys lens more_keys more_lens
          → Building s at h more_keys more_lens more_net after line.next (gates + 1)
      unfolding then or_end NumberKeyed
      build_next goes more_keys more_lens numbered =
          record {
            form = is.form;
            levels = is.levels ∙ building.levels;
            inputs = is.inputs ∙ building.inputs;
            count = refl;
            most = omega arith;
            marked = built_marked;
            keyed = rw (← add_assoc) (numbered (names_in s h) (names_count s h) building.keyed);
            reads = rw (onward, e, is.gates, drop-cons s line.next 0) refl;
          }
