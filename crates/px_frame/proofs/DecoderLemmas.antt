-- What was fed and what a piece brings make what is fed then.
use Rattle.std.proofs.Common.{◌≡◌, ℕ, ◌^◌, ◌<◌, List, [], ◌++◌, length, subst, sym, ◌∙◌, ap, arith, append_assoc, append-nil, length-drop, take, drop, ◌-◌}
use Rattle.std.proofs.lemmas.List.{take_all}
use Rattle.px_frame.specs.declared.fault.FrameFault.{FrameFault}
use Rattle.px_frame.specs.declared.frame.Frame.{Frame}
use Rattle.px_frame.specs.Descriptor.{descriptor_bytes}
use Rattle.px_frame.specs.Frame.{offset_at}
use Rattle.px_frame.specs.Reading.{IsBegun, Unfinished, Broken, IsRead}
use Rattle.px_frame.specs.Feeding.{Feeds, Breaks}
use Rattle.px_frame.proofs.ReadingLemmas.{splits-none, splits-more, splits-on, ending-offset}

-- nothing is taken
pub feeds-none : (start : ℕ) (held piece : List ℕ) → start < 2 ^ 64 → IsBegun held → Feeds start held piece [] start held piece
feeds-none start held piece fits begun = record {
  after = start;
  splits = splits-none start (held ++ piece);
  begun = begun;
  start_is = omega arith;
}

module _ {start start' : ℕ} {held piece held' left : List ℕ} {frames : List Frame} (a : Feeds start held piece frames start' held' left) where
  same-offset : offset_at a.after ≡ offset_at start'
  same-offset = omega (arith, a.start_is)

  -- and then more
  pub feeds-feeds : {end : ℕ} {last rest : List ℕ} {more : List Frame} → Feeds start' held' left more end last rest → Feeds start held piece (frames ++ more) end last rest
  feeds-feeds b =
      let on = splits-on a.splits same-offset b.splits in
      record {
        after = on.end;
        splits = on.splits;
        begun = b.begun;
        start_is = b.start_is ∙ sym on.same;
      }

  -- and then a fault
  pub feeds-breaks : {more : List Frame} {fault : FrameFault} {at : ℕ} → Breaks start' held' left more fault at → Breaks start held piece (frames ++ more) fault at
  feeds-breaks b =
      let on = splits-on a.splits same-offset b.splits in
      record {
        after = on.end;
        rest = b.rest;
        splits = on.splits;
        ends = ending-offset b.after on.end b.rest (Broken _ _) (sym on.same) b.ends;
      }

  -- more bytes are left
  pub feeds-more : (later : List ℕ) → Feeds start held (piece ++ later) frames start' held' (left ++ later)
  feeds-more later = record {
    after = a.after;
    splits = rw (← append_assoc held piece later, ← append_assoc held' left later) (splits-more later a.splits);
    begun = a.begun;
    start_is = a.start_is;
  }

-- all the bytes that were fed, and no fault
pub read-fed : {start : ℕ} {fed held : List ℕ} {frames : List Frame} → Feeds 0 [] fed frames start held [] → IsRead fed frames Unfinished
read-fed {start} {fed} {held} a = (a.after, held ++ [], a.splits, subst IsBegun (sym (append-nil held)) a.begun)

-- all of them and a piece
pub fed-on : {start start' : ℕ} {fed held held' piece : List ℕ} {before more : List Frame} → Feeds 0 [] fed before start held [] → Feeds start held piece more start' held' []
    → Feeds 0 [] (fed ++ piece) (before ++ more) start' held' []
fed-on {piece = piece} a b = feeds-feeds (feeds-more a piece) b

-- all of them and a piece with a fault
pub fed-broken : {start at : ℕ} {fed held piece : List ℕ} {before more : List Frame} {fault : FrameFault} → Feeds 0 [] fed before start held [] → Breaks start held piece more fault at
    → IsRead (fed ++ piece) (before ++ more) (Broken fault at)
fed-broken {piece = piece} a b =
    let c = feeds-breaks (feeds-more a piece) b in
    (c.after, c.rest, c.splits, c.ends)

-- bytes behind a fault are outside
pub failed-more : {at : ℕ} {fed : List ℕ} {frames : List Frame} {fault : FrameFault} (later : List ℕ) → IsRead fed frames (Broken fault at) → IsRead (fed ++ later) frames (Broken fault at)
failed-more later (after, rest, splits, (place, (d, more, words, e, rule), at_is)) =
    (after, rest ++ later, splits-more later splits, (place, (d, more ++ later, words, ap (λ b. b ++ later) e ∙ append_assoc (descriptor_bytes d) more later, rule), at_is))

-- what is left, as the code cuts it
pub feeds-left : {start start' : ℕ} {held piece held' : List ℕ} {frames : List Frame} (rest : List ℕ) (taken : ℕ) → Feeds start held piece frames start' held' (drop taken rest)
    → Feeds start held piece frames start' held' (take (length rest - taken) (drop taken rest))
feeds-left rest taken a = rw (take_all (length rest - taken) (drop taken rest) (omega (arith, length-drop taken rest))) a
