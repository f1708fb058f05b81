-- The lines of a summary, sink by sink.
use Rattle.std.proofs.Common.{◌≡◌, ℕ, suc, ◌+◌, ◌<◌, List, [], ◌∷◌, ◌++◌, length, drop, get_or, Option, None, Some, option_map, refl, sym, ap, subst, ◌∙◌, append_assoc, append-nil, arith}
use Rattle.std.specs.List.{slice_get}
use Rattle.std.proofs.Math.Seq.{drop-cons}
use Rattle.px_header.specs.declared.header.SinkSpec.{SinkSpec}
use Rattle.px_world.specs.World.{Mixer}
use Rattle.px_world.specs.declared.frames.Frames.{Frames}
use Rattle.px_world.specs.Frames.{frames_of}
use Rattle.px_app.specs.Summary.{sink_line, line_for, sink_lines}

-- what a line says of how far a sink is
abbrev pub line_by : SinkSpec → Option Frames → List ℕ
line_by s None = []
line_by s (Some f) = sink_line s.name f.consumed f.filled

line_is : (s : SinkSpec) (m : Option Mixer) → line_for s m ≡ line_by s (option_map frames_of m)
line_is s None = refl
line_is s (Some m) = refl

any_sink : (sinks : List SinkSpec) → 0 < length sinks → SinkSpec
any_sink [] some = absurd (omega arith)
any_sink (s ∷ more) some = s

-- the line of the next sink is added
lines_next : (text now : List ℕ) (i : ℕ) (sinks : List SinkSpec) (mixers : List Mixer) (s : SinkSpec) (f : Option Frames) → i < length sinks → f ≡ option_map frames_of (slice_get mixers i) → now ≡ text ++ line_by (get_or sinks i s) f
    → now ++ sink_lines (suc i) (drop (suc i) sinks) mixers ≡ text ++ sink_lines i (drop i sinks) mixers
lines_next text now i sinks mixers s f inside far added =
    let this = get_or sinks i s in
    let rest = sink_lines (suc i) (drop (suc i) sinks) mixers in
    ap (λ (t : List ℕ). t ++ rest) added
    ∙ append_assoc text (line_by this f) rest
    ∙ ap (λ (x : Option Frames). text ++ (line_by this x ++ rest)) far
    ∙ ap (λ (l : List ℕ). text ++ (l ++ rest)) (sym (line_is this (slice_get mixers i)))
    ∙ ap (λ (l : List SinkSpec). text ++ sink_lines i l mixers) (sym (drop-cons sinks i s inside))

-- the index after this one, as the loop has it
counted_on : (text now : List ℕ) (i : ℕ) (sinks : List SinkSpec) (mixers : List Mixer) → now ++ sink_lines (suc i) (drop (suc i) sinks) mixers ≡ text ++ sink_lines i (drop i sinks) mixers → now ++ sink_lines (i + 1) (drop (i + 1) sinks) mixers ≡ text ++ sink_lines i (drop i sinks) mixers
counted_on text now i sinks mixers is = (let e : suc i ≡ i + 1 = omega arith in subst (λ (k : ℕ). now ++ sink_lines k (drop k sinks) mixers ≡ text ++ sink_lines i (drop i sinks) mixers) e is)

pub lines_some : (text now : List ℕ) (i : ℕ) (sinks : List SinkSpec) (mixers : List Mixer) (s : SinkSpec) (f : Frames) → i < length sinks → Some f ≡ option_map frames_of (slice_get mixers i) → now ≡ text ++ sink_line (get_or sinks i s).name f.consumed f.filled
    → now ++ sink_lines (i + 1) (drop (i + 1) sinks) mixers ≡ text ++ sink_lines i (drop i sinks) mixers
lines_some text now i sinks mixers s f inside far added = counted_on text now i sinks mixers (lines_next text now i sinks mixers s (Some f) inside far added)

pub lines_none : (text now : List ℕ) (i : ℕ) (sinks : List SinkSpec) (mixers : List Mixer) → i < length sinks → None ≡ option_map frames_of (slice_get mixers i) → now ≡ text
    → now ++ sink_lines (i + 1) (drop (i + 1) sinks) mixers ≡ text ++ sink_lines i (drop i sinks) mixers
lines_none text now i sinks mixers inside far same = counted_on text now i sinks mixers (lines_next text now i sinks mixers (any_sink sinks (omega (arith, inside))) None inside far (same ∙ sym (append-nil text)))
