use Rattle.std.proofs.Common.{◌≡◌, ℕ, List, [], Option, refl, sym, ap, subst, ◌∙◌}
use Rattle.px_ends.specs.Visible.{after_adding}
use Rattle.px_ends.specs.Whole.{AddsFront}
use Rattle.px_ends.proofs.VisibleBytes.{adding_nothing}
use Rattle.px_app.specs.Ends.{ends_of}
use Rattle.px_app.proofs.PlayLaws.{opened_reached, opened_cut}
use Rattle.px_app.proofs.playing.Playing.begin.Goals as goal

pub returns-in-Ok-clause-played : goal.returns-in-Ok-clause-played
returns-in-Ok-clause-played g c = λ asked look header first written o looks stage.
    let left = g.S.Source.left c.args.input.now in
    let read = g.S.Source.faults c.args.input.now in
    let held = g.K.Sink.held c.args.output.now in
    let none : after_adding held c.args.self.now.pieces.bytes ≡ held = ap (after_adding held) c.requires.empty ∙ adding_nothing held in
    c.run.ensures.played asked first written
    (opened_reached g.T.Stage.mode asked g.T.Stage.stands (record c.args.self.now { pieces = c.open.new.pieces }) header look first (ends_of left read held written) (ends_of left read (after_adding held c.open.new.pieces.bytes) written)
    o refl looks stage (c.in-Ok.ensures look header held stage ∙ ap (λ (h : Option (List ℕ)). after_adding h (g.T.Stage.mode.opens look header)) none))
    ([], o.same ∙ sym (adding_nothing first.held))

pub returns-in-Err-clause-played : goal.returns-in-Err-clause-played
returns-in-Err-clause-played g c = λ asked look header first written o looks stage.
    let left = g.S.Source.left c.args.input.now in
    let read = g.S.Source.faults c.args.input.now in
    let held = g.K.Sink.held c.args.output.now in
    let none : after_adding held c.args.self.now.pieces.bytes ≡ held = ap (after_adding held) c.requires.empty ∙ adding_nothing held in
    let cut = subst (λ (h : Option (List ℕ)). AddsFront (g.T.Stage.mode.opens look header) h (after_adding held c.open.new.pieces.bytes)) none (c.in-Err.ensures look header held stage) in
    c.finish.ensures.played asked first left read written
    (opened_cut g.T.Stage.mode asked c.args.self.now.reader header look first (ends_of left read held written) (ends_of left read (after_adding held c.open.new.pieces.bytes) written) o refl looks cut)
    ([], o.same ∙ sym (adding_nothing first.held))
