use Rattle.dav_claim.proofs.claimed.ClaimedDisk.write_at.Goals as goal

pub returns-clause-frozen : goal.returns-clause-frozen
returns-clause-frozen g c frozen =
    let stays = c.write_at.ensures.frozen frozen in (
      stays.0,
      record {
        frozen = stays.1.frozen;
        same = stays.1.same;
        clean = stays.1.clean;
        no_more = stays.1.no_more;
        no_fewer = stays.1.no_fewer;
      },
    )
