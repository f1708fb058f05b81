use Rattle.std.proofs.Common.{◌≡◌, length}
use Rattle.px_server.specs.Hosted.{HasLent}
use Rattle.px_app.specs.Back.{TakesParts}
use Rattle.px_app.proofs.serve.back.hand_parts.Given as goal

-- what is taken back from here on is taken back of all
abbrev pub invariant-loop-part : goal.invariant-loop-part
invariant-loop-part g l = record {
  lent : HasLent (length l.left.items) l.cores (g.H.Host.now l.host);
  parts : (final : _) → TakesParts g.H.D.Device.now g.H.R.Recorder.faults g.H.R.Recorder.fulls l.left.items (g.H.Host.now l.host) final
      → TakesParts g.H.D.Device.now g.H.R.Recorder.faults g.H.R.Recorder.fulls l.fn.lanes.items (g.H.Host.now l.fn.host) final;
  dialled : g.H.Host.dialled l.host ≡ g.H.Host.dialled l.fn.host;
}

-- how many are left
abbrev pub decreases-loop-part : goal.decreases-loop-part
decreases-loop-part g l = length l.left.items
