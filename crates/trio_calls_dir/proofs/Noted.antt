-- A try that is noted.
use Rattle.trio_calls_dir.proofs.Words.{◌++◌, ◌∙◌, ◌≡◌, ArePossible, Ask, Busy, Call, Creds, DeskSeen, DirTried, Done, Goes, Holder, IsAlike, IsNames, IsNumber, IsOfDir, IsReplied, LeavesHere, List, MayCall, Names, NoMemory, Nodes, Option, Outcome, Replied, Reply, Row, SessionSeen, Target, Told, TryEnds, [], ap, append-nil, batch_nodes, dir_needs, edited, inl, map, noted, shows_root, subst, sym, took, ℕ}
use Rattle.trio_nodes.specs.declared.call.Answer.TheVariants.{Bytes}
use Rattle.trio_desk.specs.Calls as desk_calls
use Rattle.trio_walk.specs.Tries.{TakesMemory}
use Rattle.trio_calls_dir.specs.Asks.{Leaves, TriedIn}

-- ---- what is left

noted_alike : (call : Call) (r : Reply) (n : ℕ) (x s' : SessionSeen) → IsAlike x s' → IsAlike (noted call r n x) (noted call r n s')
noted_alike call r n x s' e = ap (noted call r n) e

-- with its note a try that is replied leaves what it should
leaves_noted : (creds : Creds) (call : Call) (t : Target) (x s' : SessionSeen) (r : Reply) (n : ℕ) → LeavesHere creds call t x (Replied r) s' → IsNumber call x (Replied r) n → Leaves creds call t (Replied r) x (noted call r n s')
leaves_noted creds call t x s' (IsReplied answer) n h e =
    subst (λ k. IsAlike (noted call (IsReplied answer) k (edited creds call t x)) (noted call (IsReplied answer) n s')) e (noted_alike call (IsReplied answer) n (edited creds call t x) s' h)
leaves_noted creds call t x s' refusal n h e = subst (λ k. IsAlike (noted call refusal k x) (noted call refusal n s')) e (noted_alike call refusal n x s' h)

-- ---- names that can't be noted

-- bytes are no reply of a call on a directory
pub is_names : (reply : Reply) → TakesMemory reply → IsOfDir reply → IsNames reply
is_names (IsReplied (Names n ns)) much of = tt
is_names (IsReplied (Bytes bytes)) much of = absurd of
is_names reply much of = absurd much

unnoted_ends : (reply : Reply) (last : List desk_calls.Call) → IsNames reply → TryEnds (Replied reply) last → TryEnds NoMemory last
unnoted_ends (IsReplied (Names n ns)) last names ends = inl ends
unnoted_ends reply last names ends = absurd names

unnoted_leaves : (creds : Creds) (call : Call) (reply : Reply) (t : Target) (x s' : SessionSeen) → IsNames reply → edited creds call t x ≡ x → LeavesHere creds call t x (Replied reply) s' → IsAlike x s'
unnoted_leaves creds call (IsReplied (Names n ns)) t x s' names same e = subst (λ (y : SessionSeen). IsAlike y s') same e
unnoted_leaves creds call reply t x s' names same e = absurd names

-- ---- one try

module _ {D : Type 0} (called : D → Ask → Told → D → Type 0) (seen : D → DeskSeen) (d d' : D) (s s' : SessionSeen) (call : Call) (may : MayCall (seen d) s) where
  -- a whole try, but for its note
  abbrev Whole : Outcome → ℕ → Type 0
  Whole end number = Goes called seen d s call (λ now. dir_needs now (seen d').creds (shows_root s) call) end number d' s'

  creds_are : (end : Outcome) (number : ℕ) → Whole end number → (seen d').creds ≡ s.creds
  creds_are end number g = g.passes.same.creds ∙ sym may.edits.on.creds

  -- what was shown is shown over the calls that were there before
  shown_then : (end : Outcome) (number : ℕ) (g : Whole end number) (nodes : Nodes) (rows : List (Option Row)) → ArePossible (seen d') s'.parcel s'.reads nodes rows
      → TriedIn (seen d').creds s call end g.target (took s (map (λ c. c.told) g.given)) (map (λ c. c.ask) (g.given ++ g.last)) (batch_nodes (seen d').creds s.calls nodes)
  shown_then end number g nodes rows p =
      subst (λ (cs : List Done). TriedIn (seen d').creds s call end g.target (took s (map (λ c. c.told) g.given)) (map (λ c. c.ask) (g.given ++ g.last)) (batch_nodes (seen d').creds cs nodes)) g.passes.calls
      (record { comes = g.comes nodes rows p; asks = g.asks nodes rows p })

  -- a try that is busy
  pub tried_busy : (holder : Holder) → Whole (Busy holder) 0 → DirTried called seen call d s (Busy holder) d' s'
  tried_busy holder g = (g.target, record { given = g.given; last = g.last; each = g.passes.each; made = g.passes.made; ends = g.ends; leaves = g.leaves; shown = shown_then (Busy holder) 0 g })

  -- and one that lacked memory
  pub tried_short : Whole NoMemory 0 → DirTried called seen call d s NoMemory d' s'
  tried_short g = (g.target, record { given = g.given; last = g.last; each = g.passes.each; made = g.passes.made; ends = g.ends; leaves = g.leaves; shown = shown_then NoMemory 0 g })

  -- one that is replied, and noted
  pub tried_noted : (reply : Reply) (number : ℕ) → Whole (Replied reply) number → DirTried called seen call d s (Replied reply) d' (noted call reply number s')
  tried_noted reply number g = (
    g.target,
    record {
      given = g.given;
      last = g.last;
      each = g.passes.each;
      made = g.passes.made;
      ends = g.ends;
      leaves =
          leaves_noted s.creds call g.target (took s (map (λ c. c.told) g.given)) s' reply number
          (subst (λ k. LeavesHere k call g.target (took s (map (λ c. c.told) g.given)) (Replied reply) s') (creds_are (Replied reply) number g) g.leaves) g.numbered;
      shown = λ nodes rows p. shown_then (Replied reply) number g nodes rows p;
    },
  )

  -- names that can't be noted
  pub tried_unnoted : (reply : Reply) (number : ℕ) → IsNames reply → Whole (Replied reply) number → DirTried called seen call d s NoMemory d' s'
  tried_unnoted reply number names g = (
    g.target,
    record {
      given = g.given;
      last = g.last;
      each = g.passes.each;
      made = g.passes.made;
      ends = unnoted_ends reply g.last names g.ends;
      leaves =
          unnoted_leaves (seen d').creds call reply g.target (took s (map (λ c. c.told) g.given)) s' names ((g.after.3 names).1 (seen d').creds g.target (took s (map (λ c. c.told) g.given))) g.leaves;
      shown = λ nodes rows p.
          let v = shown_then (Replied reply) number g nodes rows p in
          record { comes = tt; asks = ([], v.asks ∙ sym (append-nil (map (λ c. c.ask) (g.given ++ g.last)))) };
    },
  )
