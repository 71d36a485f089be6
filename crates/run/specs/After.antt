-- What a call makes of a net and of what the program holds, by its answer. Assumes nothing.
use Rattle.std.specs.Prelude.{ℕ, suc, ◌-◌, [], length, take, Ok, Err, Result}
use Rattle.mesh.specs.Net.{Net}
use Rattle.net.specs.Model.{line_of, with_line}
use Rattle.net.specs.declared.records.Line.{Line}
use Rattle.net.specs.declared.drafts.Draft.{Draft}
use Rattle.net.specs.declared.refusals.NetRefusal.{NetRefusal}
use Rattle.survey.specs.declared.surveys.Survey.{Survey}
use Rattle.survey.specs.declared.refusals.SurveyRefusal.{SurveyRefusal}
use Rattle.run.specs.Stage.{Stage, drawing, surveyed}
use Rattle.run.specs.declared.state.State.{State}
use Rattle.run.specs.declared.state.State.TheVariants.{Drafting, Surveying}

-- the net without lines
abbrev pub blank_net : {M : Type 0} → ℕ → Net M
blank_net nodes = record { nodes = nodes; lines = [] }

-- the net without its last line
abbrev pub without_last : {M : Type 0} → Net M → Net M
without_last net = record { nodes = net.nodes; lines = take (length net.lines - 1) net.lines }

-- the net after a line was asked for, by the answer
abbrev pub after_line : {L M : Type 0} → (L → M) → Net M → Line L → Result Unit NetRefusal → Net M
after_line stands net l (Ok u) = with_line net (line_of stands l)
after_line stands net l (Err e) = net

-- the net after a line was to be taken back
abbrev pub after_back : {M : Type 0} → Net M → Result Unit NetRefusal → Net M
after_back net (Ok u) = without_last net
after_back net (Err e) = net

-- a sealed net has the radius 0
abbrev pub after_seal : {M : Type 0} → Net M → Result Survey (SurveyRefusal × Draft) → Stage M
after_seal net (Ok s) = surveyed net 0
after_seal net (Err b) = drawing net

-- the radius after it was to grow
abbrev pub after_grow : ℕ → Result Unit SurveyRefusal → ℕ
after_grow r (Ok u) = suc r
after_grow r (Err e) = r

-- a reopened net keeps its lines
abbrev pub after_reopen : {M : Type 0} → Net M → ℕ → Result Draft (SurveyRefusal × Survey) → Stage M
after_reopen net r (Ok d) = drawing net
after_reopen net r (Err b) = surveyed net r

-- what the program holds after sealing, which takes the draft and hands it back with a refusal
abbrev pub held_sealed : Result Survey (SurveyRefusal × Draft) → State
held_sealed (Ok s) = Surveying s
held_sealed (Err b) = Drafting b.1

-- and after reopening
abbrev pub held_reopened : Result Draft (SurveyRefusal × Survey) → State
held_reopened (Ok d) = Drafting d
held_reopened (Err b) = Surveying b.1
