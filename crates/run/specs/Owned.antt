-- What the program's state and memory hold of a stage. Assumes nothing.
use Rattle.std.specs.Prelude.{◌≡◌, ℕ, List, length}
use Rattle.label.specs.Group.{Group}
use Rattle.label.specs.Order.{Order}
use Rattle.mesh.specs.Net.{Net}
use Rattle.mesh.specs.Drawn.{Drawn}
use Rattle.net.specs.Model.{net_of}
use Rattle.net.specs.declared.records.Line.{Line}
use Rattle.net.specs.declared.drafts.Draft.{Draft}
use Rattle.survey.specs.Owns.{Owns}
use Rattle.survey.specs.declared.records.Record.{Record}
use Rattle.survey.specs.declared.surveys.Survey.{Survey}
use Rattle.run.specs.Stage.{Stage, drawing, surveyed}
use Rattle.run.specs.declared.state.State.{State}
use Rattle.run.specs.declared.state.State.TheVariants.{Drafting, Surveying}

module _ {L M : Type 0} (G : Group M) (O : Order M) (stands : L → M) where
  -- draft and list hold the net, which was drawn under the rules
  pub record OwnedDraft (net : Net M) (d : Draft) (list : List (Line L)) : Type 0 where
    pub own_list : length list ≡ d.room
    pub net_held : net ≡ net_of stands d list
    pub drawn : Drawn G net

  -- survey and list hold the net, and the pool its balls up to the radius
  pub record OwnedSurvey (net : Net M) (r : ℕ) (s : Survey) (list : List (Line L)) (pool : List (Record L)) : Type 0 where
    pub net_held : net ≡ net_of stands s.draft list
    pub radius : r ≡ s.radius
    pub owns : Owns G O stands s list pool

  -- a draft holds a net that is drawn, and a survey one that is surveyed
  abbrev pub Owned : Stage M → State → List (Line L) → List (Record L) → Type 0
  Owned (drawing net) (Drafting d) list pool = OwnedDraft net d list
  Owned (drawing net) (Surveying s) list pool = ⊥
  Owned (surveyed net r) (Drafting d) list pool = ⊥
  Owned (surveyed net r) (Surveying s) list pool = OwnedSurvey net r s list pool
