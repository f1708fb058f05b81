-- What the words of `serve` do.
use Rattle.std.specs.Prelude.{◌≡◌, ◌⊎◌, ℕ, Bool, List, [], length, Option, IsSome, Ok, Err}
use Rattle.clap.specs.Words.{fault_of}
use Rattle.px_types.specs.declared.status.Status.{Status}
use Rattle.px_types.specs.declared.status.Status.TheVariants as status
use Rattle.px_annals.specs.declared.entry.CoreEntry.{CoreEntry}
use Rattle.px_annals.specs.declared.entry.LaneEntry.{LaneEntry}
use Rattle.px_ends.specs.declared.host.ServeOptions.{ServeOptions}
use Rattle.px_ends.specs.Device.{DeviceState}
use Rattle.px_ends.specs.Host.{HostState, FailsOnce, started_by}
use Rattle.px_ends.specs.Visible.{WhereVisible}
use Rattle.px_session.specs.declared.event.Event.{Event}
use Rattle.px_header.specs.declared.header.Header.{Header}
use Rattle.px_header.specs.HeaderRules.{IsHeader}
use Rattle.px_app.specs.declared.serve_words.words.ServeWords.{ServeWords}
use Rattle.px_app.specs.ServeCommand.{serve_command, rows, Reads, Refused as Denied}
use Rattle.px_app.specs.ServePlain.{Plain}
use Rattle.px_server.specs.declared.served.LanePart.{LanePart}
use Rattle.px_server.specs.Hosted.{Lends}
use Rattle.px_server.specs.Serving.{IsServed}
use Rattle.px_server.specs.Taped.{HasTape}
use Rattle.px_app.specs.declared.serve.call.ServeEnd.{ServeEnd}
use Rattle.px_app.specs.declared.serve.call.ServeEnd.TheVariants.{Usage, Refused, Ended}
use Rattle.px_app.specs.HeaderFile.{header_of}
use Rattle.px_app.specs.Back.{TakesParts, TakesCores}
use Rattle.px_app.specs.Tape.{Output, WritesTape}

-- the options that the words give; of plain words the spelled ones
pub record IsSaid (texts : List (List ℕ)) (said : ServeWords) : Type 0 where
  pub taken : fault_of serve_command texts ≡ []
  pub reads : Reads (rows texts) said
  pub plain : (other : ServeWords) → Plain texts other → said ≡ other

-- the words aren't those of `serve`, and then they aren't plain
abbrev pub AreNone : List (List ℕ) → Type 0
AreNone texts = Denied texts × ((said : ServeWords) → Plain texts said → ⊥)

module _ {D R C : Type 0} (core_visible : C → Option (List CoreEntry)) (core_faults core_fulls : C → ℕ) (now : D → DeviceState) (visible : R → Option (List LaneEntry)) (faults fulls : R → ℕ) where
  -- a serving call on the sinks of a header, with this name of the default source, or none, after which the host took back all that it handed out,
  -- and the tape was written, where there is one
  pub record IsServing (source : Option (List ℕ)) (header : Header) (taped : Bool) (before after : HostState D R C) (out_before out_after : Output) (answered : Status) : Type 0 where
    pub parts : List (LanePart D R)
    pub core : Option C
    pub served_state : HostState D R C
    pub parts_state : HostState D R C
    pub ended : Status
    pub tape : Option (List Event)
    pub served : IsServed core_visible core_faults core_fulls now visible faults fulls source header before served_state ended parts core
    -- where the core's recorder came back, the host had made just these devices and recorders
    pub exact : IsSome core → Lends (length parts) 1 before served_state
    pub recorded : HasTape visible taped ended parts tape
    pub written : WritesTape header tape out_before out_after ended answered
    pub parts_back : TakesParts now faults fulls parts served_state parts_state
    pub core_back : TakesCores core_faults core_fulls core parts_state after

  -- there was no serving call: memory ran out, or the start failed
  abbrev pub IsEarly : ServeOptions → Status → HostState D R C → HostState D R C → Type 0
  IsEarly options answered before after =
      ((answered ≡ status.Memory) × ((after ≡ before) ⊎ (after ≡ started_by options before)))
      ⊎ ((answered ≡ status.Host) × FailsOnce before after)

  -- the host was started with these options, and the header in its header file was served, if it is one, with the name of the default source that
  -- the words give, or none
  abbrev pub ServesWith : ServeWords → ServeEnd → HostState D R C → HostState D R C → Output → Output → Type 0
  ServesWith said Usage before after out_before out_after = ⊥
  ServesWith said (Refused at cause) before after out_before out_after =
      (bytes : List ℕ) × WhereVisible before.header (λ all. bytes ≡ all) × (header_of bytes ≡ Err (record { at = at; cause = cause })) × (after ≡ started_by said.options before)
      × (out_after ≡ out_before)
  ServesWith said (Ended answered) before after out_before out_after =
      (IsEarly said.options answered before after × (out_after ≡ out_before))
      ⊎ ((bytes : List ℕ) × (header : Header) × WhereVisible before.header (λ all. bytes ≡ all) × (header_of bytes ≡ Ok header)
      × IsHeader header × IsServing said.source header said.tape (started_by said.options before) after out_before out_after answered)

  -- `serve` by these words
  abbrev pub ServesBy : List (List ℕ) → ServeEnd → HostState D R C → HostState D R C → Output → Output → Type 0
  ServesBy texts Usage before after out_before out_after = AreNone texts × (after ≡ before) × (out_after ≡ out_before)
  ServesBy texts (Refused at cause) before after out_before out_after =
      (said : ServeWords) × IsSaid texts said × ServesWith said (Refused at cause) before after out_before out_after
  ServesBy texts (Ended answered) before after out_before out_after =
      ((answered ≡ status.Memory) × (after ≡ before) × (out_after ≡ out_before))
      ⊎ ((said : ServeWords) × IsSaid texts said × ServesWith said (Ended answered) before after out_before out_after)
