-- A try that is noted.
use Rattle.trio_calls_file.proofs.Words.{◌++◌, ◌∙◌, ◌≡◌, ArePossible, Ask, Busy, Bytes, Call, DeskSeen, Done, FileTried, Holder, IsAlike, IsBytes, IsPlain, IsRead, IsReplied, LeavesHere, List, NoMemory, Nodes, Option, Outcome, Read, Replied, RepliesTo, Reply, Row, SessionSeen, Told, TryEnds, [], ap, append-nil, batch_nodes, edited, inl, map, noted, refl, subst, sym, took, ℕ, Readlink}
use Rattle.trio_nodes.specs.declared.call.Answer.TheVariants.{Names}
use Rattle.trio_desk.specs.Calls as desk_calls
use Rattle.trio_walk.specs.Tries.{TakesMemory}
use Rattle.trio_calls_file.specs.Asks.{Leaves, TriedIn}

-- ---- what is left

noted_alike : (call : Call) (r : Reply) (x s' : SessionSeen) → IsAlike x s' → IsAlike (noted call r 0 x) (noted call r 0 s')
noted_alike call r x s' e = ap (λ q. noted call r 0 q) e

-- with its note a try that is replied leaves what it should
leaves_noted : (call : Call) (ino : ℕ) (x s' : SessionSeen) (r : Reply) → LeavesHere call ino x (Replied r) s' → Leaves call ino (Replied r) x (noted call r 0 s')
leaves_noted call ino x s' (IsReplied answer) h = noted_alike call (IsReplied answer) (edited call ino x) s' h
leaves_noted call ino x s' refusal h = noted_alike call refusal x s' h

-- a read edits nothing
read_edits : (call : Call) (ino : ℕ) (x : SessionSeen) → IsRead call → edited call ino x ≡ x
read_edits (Read path at len) ino x r = refl
read_edits (Readlink path) ino x r = refl
read_edits call ino x r = absurd r

-- ---- bytes that can't be noted

-- names are no reply of a call of a file
pub is_bytes : (reply : Reply) → TakesMemory reply → IsPlain reply → IsBytes reply
is_bytes (IsReplied (Bytes bytes)) much plain = tt
is_bytes (IsReplied (Names n ns)) much plain = absurd plain
is_bytes reply much plain = absurd much

unnoted_ends : (reply : Reply) (last : List desk_calls.Call) → IsBytes reply → TryEnds (Replied reply) last → TryEnds NoMemory last
unnoted_ends (IsReplied (Bytes bytes)) last b ends = inl ends
unnoted_ends reply last b ends = absurd b

unnoted_leaves : (call : Call) (reply : Reply) (ino : ℕ) (x s' : SessionSeen) → IsBytes reply → IsRead call → LeavesHere call ino x (Replied reply) s' → IsAlike x s'
unnoted_leaves call (IsReplied (Bytes bytes)) ino x s' b read e = subst (λ (y : SessionSeen). IsAlike y s') (read_edits call ino x read) e
unnoted_leaves call reply ino x s' b read e = absurd b

-- ---- one try

module _ {D : Type 0} (called : D → Ask → Told → D → Type 0) (seen : D → DeskSeen) (d d' : D) (s s' : SessionSeen) (call : Call) where
  -- what was shown is shown over the calls that were there before
  shown_then : (end : Outcome) (t : RepliesTo called seen d s call end d' s') (nodes : Nodes) (rows : List (Option Row)) → ArePossible (seen d') s'.parcel s'.reads nodes rows
      → TriedIn (seen d').creds s call end t.file (map (λ c. c.ask) (t.goes.given ++ t.goes.last)) (batch_nodes (seen d').creds s.calls nodes)
  shown_then end t nodes rows p =
      subst (λ (cs : List Done). TriedIn (seen d').creds s call end t.file (map (λ c. c.ask) (t.goes.given ++ t.goes.last)) (batch_nodes (seen d').creds cs nodes)) t.goes.passes.calls
      (record { comes = t.comes nodes rows p; asks = t.goes.asks nodes rows p })

  -- a try that is busy
  pub tried_busy : (holder : Holder) → RepliesTo called seen d s call (Busy holder) d' s' → FileTried called seen call d s (Busy holder) d' s'
  tried_busy holder t = (
    t.file,
    record {
      given = t.goes.given;
      last = t.goes.last;
      each = t.goes.passes.each;
      made = t.goes.passes.made;
      ends = t.goes.ends;
      leaves = t.goes.leaves;
      shown = shown_then (Busy holder) t;
    },
  )

  -- and one that lacked memory
  pub tried_short : RepliesTo called seen d s call NoMemory d' s' → FileTried called seen call d s NoMemory d' s'
  tried_short t = (
    t.file,
    record {
      given = t.goes.given;
      last = t.goes.last;
      each = t.goes.passes.each;
      made = t.goes.passes.made;
      ends = t.goes.ends;
      leaves = t.goes.leaves;
      shown = shown_then NoMemory t;
    },
  )

  -- so is one whose bytes can't be noted
  pub tried_unnoted : (reply : Reply) → IsBytes reply → RepliesTo called seen d s call (Replied reply) d' s' → FileTried called seen call d s NoMemory d' s'
  tried_unnoted reply bytes t = (
    t.file,
    record {
      given = t.goes.given;
      last = t.goes.last;
      each = t.goes.passes.each;
      made = t.goes.passes.made;
      ends = unnoted_ends reply t.goes.last bytes t.goes.ends;
      leaves = unnoted_leaves call reply t.file (took s (map (λ c. c.told) t.goes.given)) s' bytes (t.goes.after.3 bytes).1 t.goes.leaves;
      shown = λ nodes rows p.
          let v = shown_then (Replied reply) t nodes rows p in record { comes = tt; asks = ([], v.asks ∙ sym (append-nil (map (λ c. c.ask) (t.goes.given ++ t.goes.last)))) };
    },
  )

  -- one that is replied, and noted
  pub tried_noted : (reply : Reply) → RepliesTo called seen d s call (Replied reply) d' s' → FileTried called seen call d s (Replied reply) d' (noted call reply 0 s')
  tried_noted reply t = (
    t.file,
    record {
      given = t.goes.given;
      last = t.goes.last;
      each = t.goes.passes.each;
      made = t.goes.passes.made;
      ends = t.goes.ends;
      leaves = leaves_noted call t.file (took s (map (λ c. c.told) t.goes.given)) s' reply t.goes.leaves;
      shown = λ nodes rows p. shown_then (Replied reply) t nodes rows p;
    },
  )
