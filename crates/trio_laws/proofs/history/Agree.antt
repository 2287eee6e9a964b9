-- What is known of a state goes by the log that replays to it.
use Rattle.trio_laws.proofs.Words.{◌∙◌, ◌∷◌, ◌≡◌, Entry, Kept, Known, List, ReplaysFrom, State, [], answer_of, ap, arith, event_of, filter-map, known, out_of, start, sym, ℕ}
use Rattle.trio_laws.proofs.KnownSteps.{steps_are_known}
use Rattle.trio_laws.proofs.Runs.{step_kept, start_kept}
use Rattle.trio_laws.specs.history.Replays.{known_from, out_known}
use Rattle.trio_laws.specs.history.HistoryLaws.{ReplayIsKnown, ReplaysAgree, OutIsLogged}

known_after_all : (s : State) (log : List Entry) (s' : State) → Kept s → ReplaysFrom s log s' → known s' ≡ known_from (known s) log
known_after_all s [] s' k r = ap known r
known_after_all s (e ∷ es) s' k r =
    known_after_all r.0 es s' (step_kept s r.0 (event_of e) (answer_of e) k r.2 r.3) r.4
    ∙ ap (λ (z : Known). known_from z es) (steps_are_known s (event_of e) (answer_of e) r.0 k r.3)

pub replay_is_known : ReplayIsKnown
replay_is_known image creds log s fit v whole r = known_after_all (start image creds) log s (start_kept image creds fit v whole) r

pub replays_agree : ReplaysAgree
replays_agree image creds log s t fit v whole a b =
    replay_is_known image creds log s fit v whole a ∙ sym (replay_is_known image creds log t fit v whole b)

out_is_known : (s : State) (lib : ℕ) → out_of s lib ≡ out_known (known s) lib
out_is_known s lib = search (arith, filter-map)

pub out_is_logged : OutIsLogged
out_is_logged image creds log s lib fit v whole r =
    out_is_known s lib ∙ ap (λ (k : Known). out_known k lib) (replay_is_known image creds log s fit v whole r)
