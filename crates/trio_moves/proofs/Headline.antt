-- What is claimed of every run holds with releases in two moves.
use Rattle.std.proofs.Common.{◌≡◌, ℕ, Some, None, sym, ◌∙◌, subst, inl, inr}
use Rattle.trio_rights.specs.Bundle.{Bundle}
use Rattle.trio_lists.specs.Lists.{In}
use Rattle.trio_state.specs.Moves.{End, ActAnswer, HasBegun, Answered, Acts, GivenAct, ActMove}
use Rattle.trio_state.specs.Run.{Move}
use Rattle.trio_state.specs.State.{settled}
use Rattle.trio_state.specs.Step.{Release, CtlAnswer, Refused, Step}
use Rattle.trio_state.specs.Tells.{Why}
use Rattle.trio_surveys.proofs.Trees.{image_is_tree}
use Rattle.trio_laws.specs.Laws.{IsMove, IsJudged, IsVerdict, IsBack}
use Rattle.trio_laws.proofs.Isolation.{every_step_is_isolated}
use Rattle.trio_laws.proofs.RowSteps.{every_step_keeps_rows}
use Rattle.trio_laws.proofs.StateLaws.{does_told}
use Rattle.trio_laws.proofs.Verdicts.{release_verdict, refusal_keeps}
use Rattle.trio_laws.specs.ActLaws.{event_of}
use Rattle.trio_moves.specs.ActRuns.{calls_by, MovesKeepHeadline, ActStands}
use Rattle.trio_moves.proofs.ActRuns.{ActOf, act_of, CallOf, call_of}

answers_same : (a b : CtlAnswer) → Answered a ≡ Answered b → a ≡ b
answers_same a b e = cc e

module _ (m : ActMove) (a : ActOf m) where
  call : CallOf m.before m.act m.answer m.after
  call = call_of m.before m.act m.answer m.after a.before a.given a.acts

  said_call : (said : CtlAnswer) → m.answer ≡ Answered said → CallOf m.before m.act (Answered said) m.after
  said_call said e = subst (λ x. CallOf m.before m.act x m.after) e call

  one_move : (answer : ActAnswer) → CallOf m.before m.act answer m.after → (move : Move) → In move (calls_by m answer) → IsMove move
  one_move HasBegun c move i = absurd i
  one_move (Answered said) c move (inr i) = absurd i
  one_move (Answered said) c move (inl e) =
      subst IsMove (sym e) (record { kept = a.before.kept; given = c.0; step = c.1 })

  module _ (lib : ℕ) (b : Bundle) (is : m.act ≡ End lib b) where
    end : Acts m.before (End lib b) m.answer m.after
    end = subst (λ x. Acts m.before x m.answer m.after) is a.acts

    given_end : GivenAct m.before (End lib b)
    given_end = subst (λ x. GivenAct m.before x) is a.given

    step : Step m.before.state (Release lib b) end.0 m.after.state
    step = inl end.2

    verdict : IsVerdict m.before.state lib b end.0 m.after.state
    verdict = release_verdict m.before.state m.after.state lib b end.0 step

    is_judged : IsJudged end.0
    is_judged = (
      does_told m.before.state (Release lib b) end.0 m.after.state end.2,
      λ n e.
          let parted : Some n ≡ None = sym (verdict.parted n e).0 ∙ a.before.closed lib b given_end.0 in
          absurd cc,
    )

    is_back : (why : Why) → m.answer ≡ Answered (Refused why) → IsBack m.before.state b m.after.state
    is_back why e =
        let said : end.0 ≡ Refused why = answers_same end.0 (Refused why) (sym end.1 ∙ e) in
        refusal_keeps m.before.state lib b why m.after.state a.before.kept (a.before.given lib b given_end.0 given_end.1)
        (subst (λ x. Step m.before.state (Release lib b) x m.after.state) said step)

  pub act_stands : ActStands m
  act_stands = record {
    kept = (a.before.kept, a.after.kept);
    tree = image_is_tree (settled m.after.state) a.after.kept.fit a.after.kept.verifies;
    begins = λ e. subst (λ x. CallOf m.before m.act x m.after) e call;
    steps = one_move m.answer call;
    judged = λ lib b is. ((end lib b is).0, (end lib b is).1, is_judged lib b is, verdict lib b is);
    back = λ lib b why is e. is_back lib b is why e;
    isolated = λ said n r e row none elsewhere.
        let c = said_call said e in
        every_step_is_isolated m.before.state (event_of m.act) said m.after.state n r a.before.kept c.0 c.1 row none elsewhere;
    rows = λ said n r e row.
        let c = said_call said e in
        every_step_keeps_rows m.before.state (event_of m.act) said m.after.state n r a.before.kept c.0 c.1 row;
  }

pub moves_keep_headline : MovesKeepHeadline
moves_keep_headline acts m i = act_stands m (act_of acts m i)
