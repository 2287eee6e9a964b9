use Rattle.trio_ctl.proofs.Words.{Bundle, HasRoom, Kept, Registered, ap, arith, bundle_in, bundle_pages, length, rules, subst, sym, verdict_on}
use Rattle.trio_ctl.proofs.Concluding.{can_commit_seen, can_roll_back_seen, ended_accepted, ended_refused, few_seen}
use Rattle.trio_ctl.proofs.Views.{state_is}
use Rattle.trio_ctl.proofs.registry.Registry.conclude.Goals as goal

pub enter-requires-clause-room : goal.enter-requires-clause-room
enter-requires-clause-room c =
    subst (λ (x : Registered). HasRoom (record { made = x.state.entries; promised = x.promised }) 1) (sym c.self.view_is) c.requires.room

pub commit-requires : goal.commit-requires
commit-requires c =
    let out = rw c.in-Accepted.is at c.requires.outcome in
    let can = can_commit_seen c.self.invariant c.args.lib (state_is c.self.view_is) (ap bundle_in c.into_bundle-bundle.ensures) c.requires.given c.requires.closed out in
    record { allotted = can.allotted; within = can.within; table = can.table; places = can.places; handed = can.handed; numbers = can.numbers; slots = can.slots; listed = can.listed }

pub roll_back-requires : goal.roll_back-requires
roll_back-requires c =
    let can = can_roll_back_seen c.self.invariant c.args.lib (state_is c.self.view_is) (ap bundle_in c.into_bundle-bundle.ensures) c.requires.given c.requires.closed in
    record { allotted = can.allotted; once = can.once; within = can.within; covered = can.covered }

pub invariant_of-self : goal.invariant_of-self
invariant_of-self c =
    let out = rw c.in-Accepted.is at c.requires.outcome in
    let done = c.commit.ensures in
    (ended_accepted c.self.invariant c.args.lib (state_is c.self.view_is) (ap bundle_in c.into_bundle-bundle.ensures) c.requires.given c.requires.closed out c.commit.new.self
    (record { home = done.home; checkpoints = done.checkpoints; root = done.root; rows = done.rows; owners = done.owners; sizes = done.sizes; allotments = done.allotments }) c.end_files.ensures.table c.end_files.ensures.files c.enter.ensures).0

pub invariant_of-self-in-Refused : goal.invariant_of-self-in-Refused
invariant_of-self-in-Refused c =
    let out = rw c.in-Refused.is at c.requires.outcome in
    let done = c.roll_back.ensures in
    (ended_refused c.self.invariant c.args.lib (state_is c.self.view_is) (ap bundle_in c.into_bundle-bundle.ensures) c.requires.given c.requires.closed c.in-Refused.rule c.in-Refused.ino c.in-Refused.page c.in-Refused.slot out c.roll_back.new.self
    (record { home = done.home; checkpoints = done.checkpoints; allotments = done.allotments; root = done.root; rows = done.rows; owners = done.owners }) c.end_files.ensures.table c.end_files.ensures.files c.enter.ensures).0

pub returns-in-Accepted : goal.returns-in-Accepted
returns-in-Accepted c =
    let out = rw c.in-Accepted.is at c.requires.outcome in
    let b = ap bundle_in c.into_bundle-bundle.ensures in
    let done = c.commit.ensures in
    let ended = ended_accepted c.self.invariant c.args.lib (state_is c.self.view_is) b c.requires.given c.requires.closed out c.commit.new.self
    (record { home = done.home; checkpoints = done.checkpoints; root = done.root; rows = done.rows; owners = done.owners; sizes = done.sizes; allotments = done.allotments }) c.end_files.ensures.table c.end_files.ensures.files c.enter.ensures in
    let few = few_seen c.self.invariant c.args.lib (state_is c.self.view_is) b c.requires.given c.requires.closed out in
    let looked = done.looked in
    let reads = done.reads in
    let seen = ap (λ (x : Registered). x.looked) c.self.view_is in
    let pages = ap (λ (x : Bundle). length (bundle_pages x)) b in
    let writes = ap (λ (x : Bundle). length x.writes) b in
    record {
      step = ended.1;
      verdict = ap verdict_on (sym c.in-Accepted.is);
      floor = (let more = done.floor in omega (arith, more, seen));
      looked = omega (arith, few, looked, seen, pages, writes);
      reads = omega (arith, few, reads, pages, writes);
      was_kept = subst (λ (x : Registered). Kept x.state) c.self.view_is c.self.invariant.stored.kept;
      kept = ended.0.stored.kept;
      begun = ap (λ (x : Registered). x.begun) c.self.view_is;
      promised = search rules;
    }

pub returns-in-Refused : goal.returns-in-Refused
returns-in-Refused c =
    let out = rw c.in-Refused.is at c.requires.outcome in
    let done = c.roll_back.ensures in
    let ended = ended_refused c.self.invariant c.args.lib (state_is c.self.view_is) (ap bundle_in c.into_bundle-bundle.ensures) c.requires.given c.requires.closed c.in-Refused.rule c.in-Refused.ino c.in-Refused.page c.in-Refused.slot out c.roll_back.new.self
    (record { home = done.home; checkpoints = done.checkpoints; allotments = done.allotments; root = done.root; rows = done.rows; owners = done.owners }) c.end_files.ensures.table c.end_files.ensures.files c.enter.ensures in
    record {
      step = ended.1;
      verdict = ap verdict_on (sym c.in-Refused.is);
      floor = search rules;
      looked = search rules;
      reads = search rules;
      was_kept = subst (λ (x : Registered). Kept x.state) c.self.view_is c.self.invariant.stored.kept;
      kept = ended.0.stored.kept;
      begun = ap (λ (x : Registered). x.begun) c.self.view_is;
      promised = search rules;
    }
