use Rattle.trio_proposal.proofs.Words.{◌∙◌, Core, ap, length, mets_below, with_bodies}
use Rattle.trio_proposal.proofs.Keeping.{placed}
use Rattle.trio_proposal.proofs.Judging.{accepted, allowed_is, core_is, is_found, next_pages, owned_long, refused, unsound}
use Rattle.trio_proposal.proofs.judgement.judge.Goals as goal

pub propose-requires-clause-placed : goal.propose-requires-clause-placed
propose-requires-clause-placed c = placed c.args.settled.pages c.args.root.now c.args.range c.args.rows.now c.args.bundle.now c.requires

pub returns-in-Err-Fails-clause-refused : goal.returns-in-Err-Fails-clause-refused
returns-in-Err-Fails-clause-refused c = λ owners.
    let a = c.args in
    let p = c.in_ok-proposal.proposal in
    let is = c.in_ok-proposal.ensures.proposes in
    unsound a.settled.pages a.root.now a.range a.rows.now a.creds a.bundle.now c.requires p is c.propose.new.home.pages c.inodes-inodes.result c.in_ok-proposal.ensures.pages c.inodes-inodes.ensures.inodes (rw c.in-Err-Fails.field-0-is at c.in-Err-Fails.ensures.fails).0

pub is_allowed-requires : goal.is_allowed-requires
is_allowed-requires c =
    let a = c.args in
    let p = c.in_ok-proposal.proposal in
    let is = c.in_ok-proposal.ensures.proposes in
    let f = c.in-Ok.found in
    let found = is_found a.settled.pages a.root.now a.range a.rows.now a.creds a.bundle.now c.requires p is c.propose.new.home.pages c.inodes-inodes.result f c.in_ok-proposal.ensures.pages c.inodes-inodes.ensures.inodes (record { sound = c.in-Ok.ensures.sound; rows = c.in-Ok.ensures.rows; owners = c.in-Ok.ensures.owners }) in
    owned_long a.settled.pages a.root.now a.range a.rows.now a.creds a.bundle.now c.requires p is f found

pub returns-then-not-is_allowed-clause-refused : goal.returns-then-not-is_allowed-clause-refused
returns-then-not-is_allowed-clause-refused c = λ owners.
    let a = c.args in
    let p = c.in_ok-proposal.proposal in
    let is = c.in_ok-proposal.ensures.proposes in
    let f = c.in-Ok.found in
    let found = is_found a.settled.pages a.root.now a.range a.rows.now a.creds a.bundle.now c.requires p is c.propose.new.home.pages c.inodes-inodes.result f c.in_ok-proposal.ensures.pages c.inodes-inodes.ensures.inodes (record { sound = c.in-Ok.ensures.sound; rows = c.in-Ok.ensures.rows; owners = c.in-Ok.ensures.owners }) in
    refused a.settled.pages a.root.now a.range a.rows.now a.creds a.bundle.now c.requires p is f found c.is_allowed.result c.is_allowed.ensures.0 c.is_allowed.ensures.1 c.if-not-is_allowed.true

pub place_bodies-requires-clause-slots : goal.place_bodies-requires-clause-slots
place_bodies-requires-clause-slots c = λ n r e one. (c.requires.placed n r e one).0

pub returns-clause-accepted : goal.returns-clause-accepted
returns-clause-accepted c = λ owners.
    let a = c.args in
    let p = c.in_ok-proposal.proposal in
    let is = c.in_ok-proposal.ensures.proposes in
    let f = c.in-Ok.found in
    let found = is_found a.settled.pages a.root.now a.range a.rows.now a.creds a.bundle.now c.requires p is c.propose.new.home.pages c.inodes-inodes.result f c.in_ok-proposal.ensures.pages c.inodes-inodes.ensures.inodes (record { sound = c.in-Ok.ensures.sound; rows = c.in-Ok.ensures.rows; owners = c.in-Ok.ensures.owners }) in
    let may = c.is_allowed.ensures.0 c.if-not-is_allowed.false in
    let allowed = allowed_is a.settled.pages a.root.now a.range a.rows.now a.creds a.bundle.now c.requires p is f found may.0 may.1 in
    accepted a.settled.pages a.root.now a.range a.rows.now a.creds a.bundle.now c.requires p is f found allowed

pub returns-clause-next : goal.returns-clause-next
returns-clause-next c = λ owners.
    let a = c.args in
    let p = c.in_ok-proposal.proposal in
    let is = c.in_ok-proposal.ensures.proposes in
    let f = c.in-Ok.found in
    let found = is_found a.settled.pages a.root.now a.range a.rows.now a.creds a.bundle.now c.requires p is c.propose.new.home.pages c.inodes-inodes.result f c.in_ok-proposal.ensures.pages c.inodes-inodes.ensures.inodes (record { sound = c.in-Ok.ensures.sound; rows = c.in-Ok.ensures.rows; owners = c.in-Ok.ensures.owners }) in
    let may = c.is_allowed.ensures.0 c.if-not-is_allowed.false in
    let allowed = allowed_is a.settled.pages a.root.now a.range a.rows.now a.creds a.bundle.now c.requires p is f found may.0 may.1 in
    let stands = c.survey_picked.ensures.pages ∙ c.in_ok-proposal.ensures.pages in
    record {
      pages =
          c.place_bodies.ensures
          ∙ ap (λ k. with_bodies (mets_below a.rows.now k (length a.rows.now)) c.survey_picked.new.home.pages) c.deref.ensures.value
          ∙ ap (with_bodies (mets_below a.rows.now p.kept.items (length a.rows.now))) stands
          ∙ next_pages a.settled.pages a.root.now a.range a.rows.now a.creds a.bundle.now c.requires p is f found allowed;
      root = ap (λ (x : Core). x.root) (core_is a.settled.pages a.root.now a.range a.rows.now a.creds a.bundle.now c.requires p is c.propose.new.home.pages c.inodes-inodes.result c.in_ok-proposal.ensures.pages c.inodes-inodes.ensures.inodes);
      rows = found.rows;
      owners = found.owners;
    }
