use Rattle.session_lane.proofs.OneReply.{one_reply}
use Rattle.session_lane.proofs.laws.one_reply_is_right.Goals as goal

pub returns : goal.returns
returns c =
    λ rules schema db text a b p q. one_reply (record {
      one_list = c.each_text_reads_one_way.ensures.one_list;
      never_both = c.each_text_reads_one_way.ensures.never_both;
      one_place = c.each_text_reads_one_way.ensures.one_place;
      one_statement = c.one_statement.ensures;
    }) rules schema db text a b p q
