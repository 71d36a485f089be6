-- The number that each refusal of the survey has. Assumes nothing.
use Rattle.std.specs.Prelude.{ℕ}
use Rattle.survey.specs.declared.refusals.SurveyRefusal.{SurveyRefusal}
use Rattle.survey.specs.declared.refusals.SurveyRefusal.TheVariants as refusal

abbrev pub survey_number : SurveyRefusal → ℕ
survey_number refusal.NoSuchNode = 7
survey_number refusal.OtherLength = 12
survey_number refusal.PoolSize = 25
survey_number refusal.RadiusFull = 26
survey_number refusal.PoolFull = 27
survey_number refusal.BeyondRadius = 28
survey_number refusal.NoSuchMember = 29
