-- A line hears more bytes: what a feed of them gave is added.
use Rattle.std.proofs.Common.{◌≡◌, ℕ, false, List, [], ◌∷◌, ◌++◌, length, map, take, drop, ap, sym, subst, ◌∙◌, append-nil, Result, Ok, Err}
use Rattle.px_types.specs.declared.ids.ConnId.{ConnId}
use Rattle.px_frame.specs.declared.fault.FrameError.{FrameError}
use Rattle.px_frame.specs.declared.fault.FrameError.TheVariants.{Fault, Failed, NoMemory}
use Rattle.px_frame.specs.declared.fault.FrameFault.{FrameFault}
use Rattle.px_frame.specs.declared.frame.Frame.{Frame}
use Rattle.px_frame.specs.Meaning.{frames_in}
use Rattle.px_frame.specs.Progress.{Progress, Within, Stopped, Lost, HasFed, Answers, Leaves}
use Rattle.px_frame.specs.Reading.{Unfinished, Broken, IsRead}
use Rattle.px_frame.proofs.DecoderLemmas.{read-fed, failed-more}
use Rattle.px_frame.proofs.MeaningLemmas.{read-only}
use Rattle.px_frame.proofs.ReadingLemmas.{reading-unique}
use Rattle.px_sieve.specs.declared.line.Line.{Line}
use Rattle.px_sieve.specs.declared.segment.Segment.TheVariants.{Whole, Faulty}
use Rattle.px_sieve.specs.Segment.{size_of_all, rest_in}
use Rattle.px_sieve.specs.Sieve.{Heard, heard_more, unheard}
use Rattle.px_sieve.specs.Standing.{Hears, IsRest, Adds}
use Rattle.px_sieve.proofs.Cutting.{short-before, rest-now, ending-was, ending-now, segments-given, segments-none, ending-failed}

-- ---- what was read

apart : (fault : FrameFault) (at : ℕ) → Broken fault at ≡ Unfinished → ⊥
apart fault at e = cc

-- bytes that are read as unfinished had no fault before either
read-before : (p : Progress) (received piece : List ℕ) (before frames : List Frame) → HasFed p received before → IsRead (received ++ piece) frames Unfinished → IsRead received before Unfinished
read-before (Within start held) received piece before frames fed read = read-fed fed
read-before (Stopped fault at) received piece before frames fed read =
    absurd (apart fault at (reading-unique (received ++ piece) frames before Unfinished (Broken fault at) read (failed-more piece fed)).1)
read-before Lost received piece before frames fed read = absurd fed

-- the frames given are those of the bytes
pub fed-frames : (p : Progress) (received : List ℕ) (frames : List Frame) → HasFed p received frames → frames ≡ frames_in received
fed-frames (Within start held) received frames fed = (read-only received frames Unfinished (read-fed fed)).0
fed-frames (Stopped fault at) received frames fed = (read-only received frames (Broken fault at) fed).0
fed-frames Lost received frames fed = absurd fed

pub given-all : (p : Progress) (received : List ℕ) (frames : List Frame) → HasFed p received frames → HasFed p received (frames_in received)
given-all p received frames fed = subst (HasFed p received) (fed-frames p received frames fed) fed

-- ---- a feed

module _ (line next : Line) (h : Heard) (bytes : List ℕ) (hears : Hears line h) (same : next.conn ≡ line.conn) (in_same : next.let_in ≡ line.let_in) where
  pub hears-more : (given : Result (List Frame) FrameError) → Answers h.received (frames_in h.received) bytes given → Leaves next.decoder h.received (frames_in h.received) bytes given
      → Adds line.rest line.waiting.items bytes given next.rest next.waiting.items → Hears next (heard_more bytes h)
  hears-more (Ok frames) answers leaves adds =
      let was = read-before line.decoder h.received bytes (frames_in h.received) (frames_in h.received ++ frames) hears.fed answers in
      record {
        same = same ∙ hears.same;
        fed = given-all next.decoder (h.received ++ bytes) (frames_in h.received ++ frames) leaves;
        rest = λ e. subst (IsRest next.rest) (sym (rest-now h.received bytes frames Unfinished was answers))
            (adds.1 (rest_in h.received) (hears.rest (ending-was h.received bytes frames Unfinished was answers)) (short-before h.received bytes (frames_in h.received) frames Unfinished was answers));
        waiting = adds.0 ∙ ap (λ l. l ++ map Whole frames) hears.waiting
            ∙ ap (λ l. h.waiting ++ l) (sym (append-nil (map Whole frames)) ∙ sym (segments-given h.received bytes frames Unfinished was answers));
        let_in = in_same ∙ hears.let_in;
      }
  hears-more (Err (Fault frames fault at)) answers leaves adds =
      let was = answers.1 in
      record {
        same = same ∙ hears.same;
        fed = given-all next.decoder (h.received ++ bytes) (frames_in h.received ++ frames) leaves;
        rest = λ e. absurd (apart fault at (sym (ending-now h.received bytes frames (Broken fault at) was answers.0) ∙ e));
        waiting = adds (rest_in h.received) (hears.rest (ending-was h.received bytes frames (Broken fault at) was answers.0))
            (short-before h.received bytes (frames_in h.received) frames (Broken fault at) was answers.0)
            ∙ ap (λ l. l ++ (map Whole frames ++ Faulty (take 20 (drop (size_of_all frames) (rest_in h.received ++ bytes))) fault at ∷ [])) hears.waiting
            ∙ ap (λ l. h.waiting ++ l) (sym (segments-given h.received bytes frames (Broken fault at) was answers.0));
        let_in = in_same ∙ hears.let_in;
      }
  hears-more (Err (Failed fault at)) answers leaves adds = record {
    same = same ∙ hears.same;
    fed = given-all next.decoder (h.received ++ bytes) (frames_in h.received) leaves;
    rest = λ e. absurd (apart fault at (sym (ending-failed h.received bytes fault at answers) ∙ e));
    waiting = adds ∙ hears.waiting ∙ sym (append-nil h.waiting) ∙ ap (λ l. h.waiting ++ l) (sym (segments-none h.received bytes fault at answers));
    let_in = in_same ∙ hears.let_in;
  }
  hears-more (Err NoMemory) answers leaves adds = absurd adds

-- ---- before its first bytes

pub hears-unheard : (line : Line) (conn : ConnId) → line.conn ≡ conn → HasFed line.decoder [] [] → line.rest.count ≡ 0 → line.rest.first.items ≡ [] → line.waiting.items ≡ [] → line.let_in ≡ false
    → Hears line (unheard conn)
hears-unheard line conn same fed count first waiting out =
    let none : rest_in [] ≡ [] = ap (λ fs. drop (size_of_all fs) []) (sym (fed-frames line.decoder [] [] fed)) in
    record {
      same = same;
      fed = given-all line.decoder [] [] fed;
      rest = λ e. record { count = count ∙ sym (ap (λ l. length l) none); first = first ∙ sym (ap (take 20) none) };
      waiting = waiting;
      let_in = out;
    }
