use Rattle.writer_parts.proofs.put_tag.Goals as goal

pub returns : goal.returns
returns c = rw (← c.padding_to_8.ensures.0) c.put_padded_piece.ensures
