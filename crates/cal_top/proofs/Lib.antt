mod OneEnd
mod ReplyLemmas
mod RunLemmas
